use Rattle.std.proofs.Common.{◌≤◌, rules}
use Rattle.am_blast.proofs.Blasted.{Means-blasted, its_count}
use Rattle.am_blast.proofs.terms.blast.Goals as goal

pub returns-clause-count : goal.returns-clause-count
returns-clause-count c = λ plain.
    its_count c.args.w (search rules) c.args.fields.now c.args.term.now c.args.circuit.now c.requires.fits
    (rw c.truth.ensures.truth at c.truth.ensures.inside) c.requires.fields
    c.in_ok-word.word c.word_of.new.circuit plain c.in_ok-word.ensures.ok.follows

pub returns-clause-meaning : goal.returns-clause-meaning
returns-clause-meaning c =
    let least : 1 ≤ c.args.w = search rules in
    λ v. Means-blasted c.args.w least c.args.fields.now v (λ i d l. (c.requires.fields i d l).bits) c.args.term.now
    c.requires.fits

pub returns-in_err-word-clause-meaning : goal.returns-in_err-word-clause-meaning
returns-in_err-word-clause-meaning c =
    let least : 1 ≤ c.args.w = search rules in
    λ v. Means-blasted c.args.w least c.args.fields.now v (λ i d l. (c.requires.fields i d l).bits) c.args.term.now
    c.requires.fits
