-- The refusals by their numbers.
use Rattle.std.specs.Prelude.{ℕ, List, ◌++◌, codes, decimal}
use Rattle.grammar.specs.declared.refusal.Refusal.{Refusal}
use Rattle.grammar.specs.declared.refusal.Refusal.TheVariants.{Sizes, Starts, Owner, Unowned, Symbol, Start, Length, Mode, Rule, Token, Prod, NoSentence, Dear, Circular, Long, Many, Job, File, Check, Place, Blocks, Room, Free, Version}

-- the number of a refusal, by its line of document 01's list
abbrev pub number_of : Refusal → ℕ
number_of Sizes = 1
number_of Starts = 2
number_of Owner = 3
number_of Unowned = 4
number_of Symbol = 5
number_of Start = 6
number_of Length = 7
number_of Mode = 8
number_of Rule = 9
number_of Token = 10
number_of Prod = 11
number_of NoSentence = 12
number_of Dear = 13
number_of Circular = 14
number_of Long = 15
number_of Many = 16
number_of Job = 17
number_of File = 20
number_of Check = 21
number_of Place = 22
number_of Blocks = 23
number_of Room = 24
number_of Free = 25
number_of Version = 26

-- how a refusal is printed: `refused ` and the number
abbrev pub refusal_text : Refusal → List ℕ
refusal_text r = codes "refused " ++ decimal (number_of r)
