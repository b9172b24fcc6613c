-- A problem in the middle of a text: what a draft took of which it is settled, and which words give such a draft.
use Rattle.std.proofs.Common.{◌≡◌, Ok, Err, ap, sym, ◌∙◌, subst, refl}
use Rattle.am_text.specs.Tokens.{Left, words}
use Rattle.am_syntax.specs.Exact.{Takes}
use Rattle.am_syntax.specs.Readers.{Advances, Read, Reached, done, left_by, onward}
use Rattle.am_syntax.proofs.Laws.{Takes-words, bind_ok, ok_is}
use Rattle.am_problem.specs.Grammar.{names_of, problem}
use Rattle.am_problem.specs.Limits.{IsProblem}
use Rattle.am_problem.specs.Lines.{Lines}
use Rattle.am_problem.specs.Problem.{Problem}
use Rattle.am_problem.specs.Texts.{Draft, draft, draft_with, named, numbered, settled, settled_by, sized, undefined_in}
use Rattle.am_problem.proofs.Formed.{formed_of, lines_of_formed}
use Rattle.am_problem.proofs.LineLaws.{problem_law}
use Rattle.am_problem.proofs.LineLimits.{lines_back, lines_good}
use Rattle.am_problem.proofs.Named.{known_lines, known_named, lines_again, none_missing_lines, problem_again}
use Rattle.am_problem.proofs.TextLaws.{settled_ok, sized_back, sized_ok}
use Rattle.am_problem.proofs.Undefined.{comes, lines_past, none_comes, none_found}

-- a draft goes forward alone
drafted_reached : (s : Left) (read : Read Lines) → Reached s (left_by read) →
    Reached s (left_by (onward (λ l. done (draft_with s.tokens l)) read))
drafted_reached s (Ok p) h = h
drafted_reached s (Err e) h = h

-- reading a draft goes forward alone
pub draft_advances : Advances draft
draft_advances s = drafted_reached s (problem.read s) (problem_law.advances s)

-- what a draft took of which a problem is settled: the words of the problem, which is within all limits
pub record IsDraftOf (s t : Left) (d : Draft) (p : Problem) : Type 0 where
  pub taken : Takes s (problem.spell (named p)) t
  pub limits : IsProblem p
  pub lines : d.lines ≡ named p

-- a draft that settles to a problem took the words of this problem
pub draft_takes : (s t : Left) (d : Draft) (p : Problem) → draft s ≡ Ok (d, t) → settled d ≡ Ok p → IsDraftOf s t d p
draft_takes s t d p read settles =
    let f = bind_ok (problem.read s) (λ l. done (draft_with s.tokens l)) (d, t) read in
    let l = f.0.0 in
    let names = names_of l.rules in
    let same = ok_is (draft_with s.tokens l, f.0.1) (d, t) f.2 in
    let is : draft_with s.tokens l ≡ d = ap (λ (q : Draft × Left). q.0) same in
    let left : f.0.1 ≡ t = ap (λ (q : Draft × Left). q.1) same in
    let found = settled_ok l p (undefined_in names s.tokens) (ap settled is ∙ settles) in
    let taken = problem_law.takes s l f.0.1 f.1 in
    let none = none_comes names s.tokens found.0 in
    let known = known_lines names l
    (sym (lines_past names l (words f.0.1) taken.1)
    ∙ ap (comes names) (sym (Takes-words s (problem.spell l) f.0.1 taken.0)) ∙ none) in
    let sized = sized_ok (numbered l) p found.1 (formed_of l (lines_good l taken.1) known) in
    let again : l ≡ named p = sym (lines_again l known) ∙ ap named sized.1 in
    record {
      taken =
          subst (λ (u : Left). Takes s (problem.spell (named p)) u) left
          (subst (λ (k : Lines). Takes s (problem.spell k) f.0.1) again taken.0);
      limits = sized.0;
      lines = ap (λ (q : Draft). q.lines) (sym is) ∙ again;
    }

-- the words of a problem within all limits give a draft of which it is settled
pub record HasDraft (s t : Left) (p : Problem) : Type 0 where
  pub found : Draft
  pub read : draft s ≡ Ok (found, t)
  pub settles : settled found ≡ Ok p
  pub lines : found.lines ≡ named p

-- the words of a problem are read as a draft that settles to it
pub draft_again : (s t : Left) (p : Problem) → IsProblem p → Takes s (problem.spell (named p)) t → HasDraft s t p
draft_again s t p is taken =
    let l = named p in
    let names = names_of l.rules in
    let good = lines_back l (lines_of_formed p is.formed) in
    let known = known_named p is.formed in
    let past = lines_past names l (words t) good ∙ none_missing_lines l known in
    let defined = none_found names s.tokens (ap (comes names) (Takes-words s (problem.spell l) t taken) ∙ past) in
    record {
      found = draft_with s.tokens l;
      read = ap (onward (λ k. done (draft_with s.tokens k))) (problem_law.again s l t good taken tt);
      settles = ap (settled_by l) defined ∙ ap sized (problem_again p is.formed) ∙ sized_back p is;
      lines = refl;
    }
