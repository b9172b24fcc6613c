-- What a run writes for its input.
use Rattle.std.specs.Prelude.{◌≡◌, ℕ, ◌⊎◌, List, [], ◌∷◌, Contains, Some, IfSome}
use Rattle.std.specs.declared.option.Option.{Option}
use Rattle.std.specs.Io.KnownBytes.{IsAtEnd}
use Rattle.amurth.specs.Analysed.{IsAnalyseDue}
use Rattle.amurth.specs.Checked.{IsCheckDue}
use Rattle.amurth.specs.Command.{IsCommand}
use Rattle.amurth.specs.Listed.{IsListDue}
use Rattle.amurth.specs.Made.{IsMakeDue}
use Rattle.amurth.specs.Synthesised.{IsSynthDue}
use Rattle.amurth.specs.Translated.{IsTranslateDue}
use Rattle.amurth.specs.declared.command.Command.{Command}
use Rattle.amurth.specs.declared.command.Command.TheVariants.{Analyse, Check, List as ListCommand, Make, Synth}
use Rattle.amurth.specs.declared.command.Command.TheVariants.{Translate}
use Rattle.amurth.specs.declared.status.Status.{Status}
use Rattle.amurth.specs.declared.status.Status.TheVariants.{Done, NoMemory, ReadFault, Refused, Rejected}
use Rattle.amurth.specs.declared.status.Status.TheVariants.{SpentConflicts, SpentTurns, Usage, WriteFault}

-- what a command writes for an input, by the status after it; `make` has no input
abbrev pub IsDue : Command → Status → List ℕ → List ℕ → Type 0
IsDue Synth = IsSynthDue
IsDue Check = IsCheckDue
IsDue Translate = IsTranslateDue
IsDue Analyse = IsAnalyseDue
IsDue ListCommand = IsListDue
IsDue (Make n) = λ status input. IsMakeDue n status

-- what a command reads of a source that has these bytes left; `make` reads nothing of any source
abbrev pub input_of : Command → Option (List ℕ) → Option (List ℕ)
input_of Synth left = left
input_of Check left = left
input_of Translate left = left
input_of Analyse left = left
input_of ListCommand left = left
input_of (Make n) left = Some []

-- the statuses that a command may end with after a whole text
abbrev pub ends_of : Command → List Status
ends_of Synth = Done ∷ Refused ∷ SpentTurns ∷ SpentConflicts ∷ []
ends_of Check = Done ∷ Refused ∷ Rejected ∷ []
ends_of Translate = Done ∷ Refused ∷ Rejected ∷ []
ends_of Analyse = Done ∷ Refused ∷ Rejected ∷ []
ends_of ListCommand = Done ∷ Refused ∷ []
ends_of (Make n) = Done ∷ SpentTurns ∷ SpentConflicts ∷ []

-- the command may end so with some input; and where its input is told, the text is due to it
pub record IsDueTo (command : Command) (left : Option (List ℕ)) (status : Status) (written : List ℕ) : Type 0 where
  pub possible : Contains (ends_of command) status
  pub due : IfSome (input_of command left) (λ input. IsDue command status input written)

-- a text that would have been whole with some status
abbrev pub IsDueSomehow : Command → Option (List ℕ) → List ℕ → Type 0
IsDueSomehow command left written = (status : Status) × IsDueTo command left status written

-- a whole text was written, which tells how the work ended
abbrev pub IsToldStatus : Status → Type 0
IsToldStatus Done = Unit {0}
IsToldStatus Refused = Unit {0}
IsToldStatus SpentTurns = Unit {0}
IsToldStatus SpentConflicts = Unit {0}
IsToldStatus Rejected = Unit {0}
IsToldStatus Usage = ⊥
IsToldStatus ReadFault = ⊥
IsToldStatus WriteFault = ⊥
IsToldStatus NoMemory = ⊥

-- nothing was written
abbrev pub IsSilent : Status → Type 0
IsSilent status = (status ≡ Usage) ⊎ ((status ≡ ReadFault) ⊎ (status ≡ NoMemory))

-- the command has read its input to the end, or has none
abbrev pub HasRead : Command → Option (List ℕ) → Type 0
HasRead Synth left = IsAtEnd left
HasRead Check left = IsAtEnd left
HasRead Translate left = IsAtEnd left
HasRead Analyse left = IsAtEnd left
HasRead ListCommand left = IsAtEnd left
HasRead (Make n) left = Unit {0}

-- the words call for a command, of which this holds
abbrev pub Calls : List (List ℕ) → (Command → Type 0) → Type 0
Calls words Holds = (command : Command) × IsCommand words command × Holds command
