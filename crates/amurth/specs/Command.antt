-- The commands, and the words that call for them.
use Rattle.std.specs.Prelude.{◌≡◌, ◌≤◌, ℕ, List, [], ◌∷◌, codes, decimal}
use Rattle.amurth.specs.declared.command.Command.{Command}
use Rattle.amurth.specs.declared.command.Command.TheVariants.{Analyse, Check, List as ListCommand, Make, Synth}
use Rattle.amurth.specs.declared.command.Command.TheVariants.{Translate}

-- the words of a command line, without the program's name
abbrev pub words_of : Command → List (List ℕ)
words_of Synth = codes "synth" ∷ []
words_of Check = codes "check" ∷ []
words_of Translate = codes "translate" ∷ []
words_of Analyse = codes "analyse" ∷ []
words_of ListCommand = codes "list" ∷ []
words_of (Make n) = codes "make" ∷ decimal n ∷ []

-- the number of a made problem is one of those from 0 to the last
abbrev pub IsNumberedCommand : Command → Type 0
IsNumberedCommand Synth = Unit {0}
IsNumberedCommand Check = Unit {0}
IsNumberedCommand Translate = Unit {0}
IsNumberedCommand Analyse = Unit {0}
IsNumberedCommand ListCommand = Unit {0}
IsNumberedCommand (Make n) = n ≤ 999999

-- the words call for the command
abbrev pub IsCommand : List (List ℕ) → Command → Type 0
IsCommand words command = (words ≡ words_of command) × IsNumberedCommand command
