-- What stands in a turn, as it is stored, and parts of pieces that functions read by themselves.
use Rattle.std.specs.Prelude.{ℕ, Bool, List, Ok, Err, codes, if◌then◌else◌, ◌⊎◌}
use Rattle.am_bv.specs.declared.term.Term.{Term}
use Rattle.am_query.specs.declared.turn.Turn.{Turn}
use Rattle.am_syntax.specs.Pieces.{Piece, choice, key, keyed, next_is, times}
use Rattle.am_syntax.specs.Readers.{◌>>=◌, Reader, done, judged}
use Rattle.am_syntax.specs.declared.refusal.Cause.TheVariants.{Count}
use Rattle.am_cert.specs.Grammar.{AskedParts, CounterParts, ExampleParts, ProblemShape, counterexample, example}
use Rattle.am_cert.specs.Grammar.{negative_count, result_term, terms}
use Rattle.am_cert.specs.declared.turns.Example.{Example}

-- a stored example as its parts
abbrev pub seen_example : Example → ExampleParts
seen_example e = (e.term, (e.example.inputs, (e.example.words, e.places)))

-- a piece, whose values are seen otherwise
abbrev pub read_as : {X Y : Type 0} → (X → Y) → Piece X → Reader Y
read_as to p = p.read >>= λ x. done (to x)

-- an example or a counterexample after its key word
abbrev pub either_turn : ProblemShape → ℕ → Piece (ExampleParts ⊎ CounterParts)
either_turn s count =
    choice (next_is (codes "positive"))
    (keyed (codes "positive") (example s count))
    (keyed (codes "negative") (counterexample s))

-- what may be asked
abbrev pub question : ProblemShape → List Turn → Piece AskedParts
question s trace =
    choice (next_is (codes "start")) (key (codes "start")) (
    choice (next_is (codes "keep")) (keyed (codes "keep") (example s (negative_count trace))) (
    choice (next_is (codes "sound")) (keyed (codes "sound") (terms s))
    (keyed (codes "precise") (terms s))))

-- a line `term` for each field
abbrev pub term_lines : ProblemShape → Piece (List Term)
term_lines s = times (λ _. keyed (codes "term") (result_term s)) s.fields

-- nothing where one more may stand, or else `Count` at the next token
abbrev pub room : Bool → Reader (Unit {0})
room may s = if may then Ok (tt, s) else judged (λ _. Err Count) s
