use Rattle.std.proofs.Common.{ℕ, List, [], ◌∷◌, Err, ap, arith, length-append, ◌∙◌}
use Rattle.std.proofs.lemmas.Result.{err_from_is_err_and}
use Rattle.am_syntax.specs.Readers.{Reader}
use Rattle.am_syntax.proofs.Laws.{times_done, times_fails, times_more}
use Rattle.am_cert.specs.Grammar.{word, words}
use Rattle.am_cert.specs.inside.Shapes.{seen_shape}
use Rattle.am_cert.proofs.Steps.{gives_refused}
use Rattle.am_cert.proofs.rows.read_words.Goals as goal

pub returns-in_err-read_word : goal.returns-in_err-read_word
returns-in_err-read_word g c =
    let p = err_from_is_err_and c.from_residual.result c.from_residual.ensures.1 in
    let cause = c.in_err-read_word.field-0.0 in
    let reads : List ℕ → Reader ℕ = λ _. (word (seen_shape c.args.s.now)).read in
    gives_refused (λ row. row) c.from_residual.result cause c.args.text.now c.read_word.new.text
    (words (seen_shape c.args.s.now) c.args.count).read (p.1 ∙ ap Err p.2)
    (times_fails reads c.args.count c.words.counter c.words.row c.words.text (cause, c.read_word.new.text) _
    c.words-test.true c.in_err-read_word.ensures c.words.invariant.read)

pub words-preserved : goal.words-preserved
words-preserved g c =
    let s = seen_shape c.args.s.now in
    let n = c.in_ok-read_word.field-0 in
    let reads : List ℕ → Reader ℕ = λ _. (word s).read in
    rw c.push.ensures (record {
      so_many = omega (arith, c.words.invariant.so_many, length-append c.words.row (n ∷ []));
      read =
          times_more reads c.args.count c.words.counter c.words.row c.words.text n c.read_word.new.text _
          c.words-test.true c.in_ok-read_word.ensures c.words.invariant.read;
    })

pub returns : goal.returns
returns g c =
    times_done (λ _. (word (seen_shape c.args.s.now)).read) c.args.count c.words.counter c.words.row c.words.text _
    c.words-test.false c.words.invariant.read
