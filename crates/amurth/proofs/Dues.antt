-- What is due to an input.
use Rattle.std.proofs.Common.{◌≡◌, ℕ, ◌+◌, ◌<◌, List, [], refl, lit<, None, Some, IfSome, Ok, Err, length, arith, inl}
use Rattle.std.proofs.Common.{inr, ap, subst, sym, ◌∙◌, length-append}
use Rattle.std.specs.Prelude.{Contains, IfOk, Result}
use Rattle.std.specs.declared.option.Option.{Option}
use Rattle.am_cert.specs.declared.limits.TheConstants.{MOST_BYTES}
use Rattle.am_cert.specs.Certificate.{Certificate}
use Rattle.am_cert.specs.Texts.{ReadsAsCertificate, certificate_of}
use Rattle.am_io.specs.Streams.{Loses}
use Rattle.am_problem.specs.Problem.{Problem}
use Rattle.am_query.specs.declared.outcome.Outcome.{Outcome}
use Rattle.am_query.specs.declared.outcome.Outcome.TheVariants.{Absent, Best, Conflicts, Turns}
use Rattle.am_syntax.specs.declared.refusal.Refusal.{Refusal}
use Rattle.am_syntax.specs.declared.refusal.Refusal.TheVariants.{Long}
use Rattle.amurth.specs.Analysed.{Analysis, IsAnalysisDue}
use Rattle.amurth.specs.Answers.{IsAnswer, IsInputText}
use Rattle.amurth.specs.Checked.{IsJudged}
use Rattle.amurth.specs.Lines.{refusal_line}
use Rattle.amurth.specs.Listed.{IsListing}
use Rattle.amurth.specs.Made.{IsMakeDue}
use Rattle.amurth.specs.Run.{IsDue, IsDueTo, ends_of, input_of}
use Rattle.amurth.specs.Synthesised.{status_of}
use Rattle.amurth.specs.Translated.{IsTranslated}
use Rattle.amurth.specs.declared.command.Command.{Command}
use Rattle.amurth.specs.declared.command.Command.TheVariants.{Analyse, Check, List as ListCommand, Make, Synth}
use Rattle.amurth.specs.declared.command.Command.TheVariants.{Translate}
use Rattle.amurth.specs.declared.response.Response.{Response}
use Rattle.amurth.specs.declared.status.Status.{Status}
use Rattle.amurth.specs.declared.status.Status.TheVariants.{Refused}

-- what is due to a value is the answer to each text of it
pub answered : {A E : Type 0} (Reads : List ℕ → A → Type 0) (value_of : List ℕ → Result A Refusal)
    (Due : A → Status → List ℕ → Type 0) (input : List ℕ) (value : A) → IsInputText Reads input value →
    (result : Result Response E) → IfOk result (λ (r : Response). Due value r.status r.text.items) →
    IfOk result (λ (r : Response). IsAnswer Reads value_of Due r.status input r.text.items)
answered Reads value_of Due input value text (Ok r) due = inl (record { value = value; text = text; due = due })
answered Reads value_of Due input value text (Err e) due = tt

-- ---- how a command may end

end_is : (c : Command) (s t : Status) → s ≡ t → Contains (ends_of c) t → Contains (ends_of c) s
end_is c s t same there = subst (Contains (ends_of c)) (sym same) there

synth_end : (o : Outcome) → Contains (ends_of Synth) (status_of o)
synth_end (Best t trace sound_log best_log) = (0, lit< tt, refl)
synth_end (Absent trace log) = (0, lit< tt, refl)
synth_end (Turns trace) = (2, lit< tt, refl)
synth_end (Conflicts trace asked log) = (3, lit< tt, refl)

make_end : (n : ℕ) (o : Outcome) → Contains (ends_of (Make n)) (status_of o)
make_end n (Best t trace sound_log best_log) = (0, lit< tt, refl)
make_end n (Absent trace log) = (0, lit< tt, refl)
make_end n (Turns trace) = (1, lit< tt, refl)
make_end n (Conflicts trace asked log) = (2, lit< tt, refl)

judged_end : (c : Certificate) (s : Status) (written : List ℕ) → IsJudged c s written → Contains (ends_of Check) s
judged_end c s written (inl h) = end_is Check s _ h.ended (0, lit< tt, refl)
judged_end c s written (inr h) = end_is Check s _ h.ended (2, lit< tt, refl)

check_end : (s : Status) (input written : List ℕ) →
    IsAnswer ReadsAsCertificate certificate_of IsJudged s input written → Contains (ends_of Check) s
check_end s input written (inl h) = judged_end h.value s written h.due
check_end s input written (inr h) = end_is Check s _ h.ended (1, lit< tt, refl)

translated_end : (c : Certificate) (s : Status) (written : List ℕ) → IsTranslated c s written →
    Contains (ends_of Translate) s
translated_end c s written (inl h) = end_is Translate s _ h.ended (0, lit< tt, refl)
translated_end c s written (inr h) = end_is Translate s _ h.ended (2, lit< tt, refl)

analysis_end : (a : Analysis) (s : Status) (written : List ℕ) → IsAnalysisDue a s written → Contains (ends_of Analyse) s
analysis_end a s written (inl h) = end_is Analyse s _ h.ended (0, lit< tt, refl)
analysis_end a s written (inr (inl h)) = end_is Analyse s _ h.ended (1, lit< tt, refl)
analysis_end a s written (inr (inr h)) = end_is Analyse s _ h.ended (2, lit< tt, refl)

listing_end : (p : Problem) (s : Status) (written : List ℕ) → IsListing p s written → Contains (ends_of ListCommand) s
listing_end p s written (inl h) = end_is ListCommand s _ h.ended (0, lit< tt, refl)
listing_end p s written (inr h) = end_is ListCommand s _ h.ended (1, lit< tt, refl)

-- what is due has a status that the command may end with
pub due_possible : (c : Command) (s : Status) (input written : List ℕ) → IsDue c s input written →
    Contains (ends_of c) s
due_possible Synth s input written (inl h) = end_is Synth s _ h.due.synthesis.ended (synth_end h.due.outcome)
due_possible Synth s input written (inr h) = end_is Synth s _ h.ended (1, lit< tt, refl)
due_possible Check s input written h = check_end s input written h.answer
due_possible Translate s input written (inl h) = translated_end h.value s written h.due
due_possible Translate s input written (inr h) = end_is Translate s _ h.ended (1, lit< tt, refl)
due_possible Analyse s input written (inl h) = analysis_end h.value s written h.due
due_possible Analyse s input written (inr h) = end_is Analyse s _ h.ended (1, lit< tt, refl)
due_possible ListCommand s input written (inl h) = listing_end h.value s written h.due
due_possible ListCommand s input written (inr h) = end_is ListCommand s _ h.ended (1, lit< tt, refl)
due_possible (Make n) s input written h = end_is (Make n) s _ h.synthesis.ended (make_end n h.outcome)

-- ---- inputs that are read

-- the command has an input
abbrev pub HasInput : Command → Type 0
HasInput Synth = Unit {0}
HasInput Check = Unit {0}
HasInput Translate = Unit {0}
HasInput Analyse = Unit {0}
HasInput ListCommand = Unit {0}
HasInput (Make n) = ⊥

-- the same command reads an input too
pub has_input : {c d : Command} → c ≡ d → HasInput d → HasInput c
has_input same has = subst HasInput (sym same) has

-- it reads what the source has
reads_left : (c : Command) → HasInput c → (left : Option (List ℕ)) → left ≡ input_of c left
reads_left Synth has left = refl
reads_left Check has left = refl
reads_left Translate has left = refl
reads_left Analyse has left = refl
reads_left ListCommand has left = refl
reads_left (Make n) has left = absurd has

-- what is due to the text that was read is due to the source
pub read_due : (c : Command) → HasInput c → (left : Option (List ℕ)) (text : List ℕ) →
    IfSome left (λ all. text ≡ all) → (s : Status) (written : List ℕ) → IsDue c s text written →
    IsDueTo c left s written
read_due c has left text whole s written due = record {
  possible = due_possible c s text written due;
  due = subst (λ input. IfSome input (λ all. IsDue c s all written)) (reads_left c has left) (told left whole);
}
  where
    told : (left : Option (List ℕ)) → IfSome left (λ all. text ≡ all) → IfSome left (λ all. IsDue c s all written)
    told None whole = tt
    told (Some all) whole = subst (λ input. IsDue c s input written) whole due

-- a made problem has no input
pub made_due : (n : ℕ) (left : Option (List ℕ)) (s : Status) (written : List ℕ) → IsMakeDue n s written →
    IsDueTo (Make n) left s written
made_due n left s written due = record { possible = due_possible (Make n) s [] written due; due = due }

-- ---- inputs that are too long

long_refused : (c : Command) → HasInput c → (input : List ℕ) → MOST_BYTES < length input →
    IsDue c Refused input (refusal_line Long)
long_refused Synth has input long =
    inr (record { ended = refl; refusal = Long; first = inl (long, refl); wrote = refl })
long_refused Check has input long = record {
  answer = inr (record { ended = refl; refusal = Long; first = inl (long, refl); wrote = refl });
  own = λ problem synthesised short. absurd (omega (arith, long, short));
}
long_refused Translate has input long =
    inr (record { ended = refl; refusal = Long; first = inl (long, refl); wrote = refl })
long_refused Analyse has input long =
    inr (record { ended = refl; refusal = Long; first = inl (long, refl); wrote = refl })
long_refused ListCommand has input long =
    inr (record { ended = refl; refusal = Long; first = inl (long, refl); wrote = refl })
long_refused (Make n) has input long = absurd has

refusable : (c : Command) → HasInput c → Contains (ends_of c) Refused
refusable Synth has = (1, lit< tt, refl)
refusable Check has = (1, lit< tt, refl)
refusable Translate has = (1, lit< tt, refl)
refusable Analyse has = (1, lit< tt, refl)
refusable ListCommand has = (1, lit< tt, refl)
refusable (Make n) has = absurd has

-- where a source lost so many bytes, it had them
lost_long : (left new : Option (List ℕ)) (P : List ℕ → Type 0) → Loses left new (MOST_BYTES + 1) →
    ((input : List ℕ) → MOST_BYTES < length input → P input) → IfSome left P
lost_long None new P lost h = tt
lost_long (Some all) None P lost h = absurd lost.1
lost_long (Some all) (Some rest) P lost h =
    h all (omega (arith, lost.2, ap length lost.1 ∙ length-append lost.0 rest))

-- an input that is too long is refused
pub long_due : (c : Command) → HasInput c → (left new : Option (List ℕ)) → Loses left new (MOST_BYTES + 1) →
    IsDueTo c left Refused (refusal_line Long)
long_due c has left new lost = record {
  possible = refusable c has;
  due = subst (λ input. IfSome input (λ all. IsDue c Refused all (refusal_line Long))) (reads_left c has left)
      (lost_long left new (λ all. IsDue c Refused all (refusal_line Long)) lost (long_refused c has));
}
