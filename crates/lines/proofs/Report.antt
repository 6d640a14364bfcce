-- Document 01's whole report of G1, from words that hold what it says of each rule.
use mathlib.Core.List.{List, [], ◌∷◌, ◌++◌}
use mathlib.Core.Path.{◌≡◌, refl}
use Prim.Native.Nat.{ℕ}
use Rattle.rows.specs.Marks.{bit, mark}
use Rattle.lines.specs.Text.{places, decimal, members, after, between, spaced}
use Rattle.lines.specs.Line.{price_of, priced, line_of, heading_of}
use Rattle.lines.specs.Lent.{Tables, tables, entry_of}

-- EMPTY of rules 2 and 3; FIRST {0, 2}, {0, 2}, {2}, {1}; FOLLOW {3}, {3}, {0}, {3}; COST 1, 1, 0, 0
abbrev G1 : Tables
G1 = tables (12 ∷ []) (5 ∷ 5 ∷ 4 ∷ 2 ∷ []) (8 ∷ 8 ∷ 1 ∷ 8 ∷ []) (1 ∷ 1 ∷ 0 ∷ 0 ∷ [])

-- the line of rule r
abbrev g1_line : ℕ → List ℕ
g1_line r = line_of (entry_of 4 4 r G1)

pub g1_report : heading_of ++ (g1_line 0 ++ (g1_line 1 ++ (g1_line 2 ++ g1_line 3)))
    ≡ 114 ∷ 117 ∷ 108 ∷ 101 ∷ 44 ∷ 101 ∷ 109 ∷ 112 ∷ 116 ∷ 121 ∷ 44 ∷ 102 ∷ 105 ∷ 114 ∷ 115 ∷ 116 ∷ 44 ∷ 102 ∷ 111 ∷ 108 ∷ 108 ∷ 111 ∷ 119 ∷ 44 ∷ 99 ∷ 111 ∷ 115 ∷ 116 ∷ 10 ∷ 48 ∷ 44 ∷ 48 ∷ 44 ∷ 48 ∷ 32 ∷ 50 ∷ 44 ∷ 51 ∷ 44 ∷ 49 ∷ 10 ∷ 49 ∷ 44 ∷ 48 ∷ 44 ∷ 48 ∷ 32 ∷ 50 ∷ 44 ∷ 51 ∷ 44 ∷ 49 ∷ 10 ∷ 50 ∷ 44 ∷ 49 ∷ 44 ∷ 50 ∷ 44 ∷ 48 ∷ 44 ∷ 48 ∷ 10 ∷ 51 ∷ 44 ∷ 49 ∷ 44 ∷ 49 ∷ 44 ∷ 51 ∷ 44 ∷ 48 ∷ 10 ∷ []
unfolding bit mark places decimal members after between spaced price_of priced line_of
g1_report = refl
