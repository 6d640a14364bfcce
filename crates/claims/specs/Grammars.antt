-- Document 01's grammars G1 to G4 and G6. G2 to G6 are shown there without rule 0, whose one production is the first rule named, and without eof, the last token.
use Rattle.std.specs.Prelude.{[], ◌∷◌}
use Rattle.grammar.specs.Flat.{Flat, flat}

-- rules 0 start, 1 Num, 2 Sign, 3 Frac; tokens 0 digits, 1 comma, 2 minus, 3 eof; costs all 1
abbrev pub g1 : Flat
g1 = flat 4 (1 ∷ 2 ∷ 2 ∷ 3 ∷ 3 ∷ 0 ∷ []) (0 ∷ 3 ∷ 4 ∷ 4 ∷ 6 ∷ 6 ∷ 7 ∷ []) (32770 ∷ 0 ∷ 32771 ∷ 2 ∷ 1 ∷ 0 ∷ 32769 ∷ []) (1 ∷ 1 ∷ 1 ∷ 1 ∷ [])

-- S: A B c; A: a; B: b; B: nothing. Rules 1 S, 2 A, 3 B; tokens 0 a, 1 b, 2 c
abbrev pub g2 : Flat
g2 = flat 4 (0 ∷ 1 ∷ 2 ∷ 3 ∷ 3 ∷ []) (0 ∷ 1 ∷ 4 ∷ 5 ∷ 6 ∷ 6 ∷ []) (32769 ∷ 32770 ∷ 32771 ∷ 2 ∷ 0 ∷ 1 ∷ []) (1 ∷ 1 ∷ 1 ∷ 1 ∷ [])

-- A: A; A: a, with a costing 1
abbrev pub g3 : Flat
g3 = flat 2 (0 ∷ 1 ∷ 1 ∷ []) (0 ∷ 1 ∷ 2 ∷ 3 ∷ []) (32769 ∷ 32769 ∷ 0 ∷ []) (1 ∷ 1 ∷ [])

-- A: A a
abbrev pub g4 : Flat
g4 = flat 2 (0 ∷ 1 ∷ []) (0 ∷ 1 ∷ 3 ∷ []) (32769 ∷ 32769 ∷ 0 ∷ []) (1 ∷ 1 ∷ [])

-- A: b A; A: a, costs 1. Tokens 0 b, 1 a
abbrev pub g6 : Flat
g6 = flat 2 (0 ∷ 1 ∷ 1 ∷ []) (0 ∷ 1 ∷ 3 ∷ 4 ∷ []) (32769 ∷ 0 ∷ 32769 ∷ 1 ∷ []) (1 ∷ 1 ∷ 1 ∷ [])

-- request L2's: S: A; A: a; and a dead rule U: A z. Rules 1 S, 2 A, 3 U; tokens 0 a, 1 z
abbrev pub dead : Flat
dead = flat 4 (0 ∷ 1 ∷ 2 ∷ 3 ∷ []) (0 ∷ 1 ∷ 2 ∷ 3 ∷ 5 ∷ []) (32769 ∷ 32770 ∷ 0 ∷ 32770 ∷ 1 ∷ []) (1 ∷ 1 ∷ 1 ∷ [])

-- request L7's, two exports D and W: D: a; W: a b. Rules 1 D, 2 W; tokens 0 a, 1 b
abbrev pub exports : Flat
exports = flat 3 (0 ∷ 1 ∷ 2 ∷ 0 ∷ []) (0 ∷ 1 ∷ 2 ∷ 4 ∷ 5 ∷ []) (32769 ∷ 0 ∷ 0 ∷ 1 ∷ 32770 ∷ []) (1 ∷ 1 ∷ 1 ∷ [])

-- request L8's. S: a; and a dead rule U: nothing; U: nothing. Rules 1 S, 2 U; token 0 a
abbrev pub vanishing : Flat
vanishing = flat 3 (0 ∷ 1 ∷ 2 ∷ 2 ∷ []) (0 ∷ 1 ∷ 2 ∷ 2 ∷ 2 ∷ []) (32769 ∷ 0 ∷ []) (1 ∷ 1 ∷ [])

-- S: A B; A: nothing; A: a; A: C; C: nothing; B: a. Rules 1 S, 2 A, 3 B, 4 C; token 0 a
abbrev pub several : Flat
several = flat 5 (0 ∷ 1 ∷ 2 ∷ 2 ∷ 2 ∷ 4 ∷ 3 ∷ []) (0 ∷ 1 ∷ 3 ∷ 3 ∷ 4 ∷ 5 ∷ 5 ∷ 6 ∷ []) (32769 ∷ 32770 ∷ 32771 ∷ 0 ∷ 32772 ∷ 0 ∷ []) (1 ∷ 1 ∷ [])

-- A: a; A: b; A: b; A: c; A: d; A: a. Tokens 0 a, 1 b, 2 c, 3 d
abbrev pub crossed : Flat
crossed = flat 2 (1 ∷ 1 ∷ 1 ∷ 1 ∷ 1 ∷ 1 ∷ 0 ∷ []) (0 ∷ 1 ∷ 2 ∷ 3 ∷ 4 ∷ 5 ∷ 6 ∷ 7 ∷ []) (0 ∷ 1 ∷ 1 ∷ 2 ∷ 3 ∷ 0 ∷ 32769 ∷ []) (1 ∷ 1 ∷ 1 ∷ 1 ∷ 1 ∷ [])

-- request L12's. A: a a b; B: a a a; B: c c b. Rules 1 A, 2 B; tokens 0 a of cost 254, 1 b of 253, 2 c of 255
abbrev pub pricey : Flat
pricey = flat 3 (0 ∷ 1 ∷ 2 ∷ 2 ∷ []) (0 ∷ 1 ∷ 4 ∷ 7 ∷ 10 ∷ []) (32769 ∷ 0 ∷ 0 ∷ 1 ∷ 0 ∷ 0 ∷ 0 ∷ 2 ∷ 2 ∷ 1 ∷ []) (254 ∷ 253 ∷ 255 ∷ 0 ∷ [])

-- the same with a one dearer
abbrev pub pricier : Flat
pricier = flat 3 (0 ∷ 1 ∷ 2 ∷ 2 ∷ []) (0 ∷ 1 ∷ 4 ∷ 7 ∷ 10 ∷ []) (32769 ∷ 0 ∷ 0 ∷ 1 ∷ 0 ∷ 0 ∷ 0 ∷ 2 ∷ 2 ∷ 1 ∷ []) (255 ∷ 253 ∷ 255 ∷ 0 ∷ [])
