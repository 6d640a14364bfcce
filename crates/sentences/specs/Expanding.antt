-- The sentence written into lent room, rule by rule and production by production.
use Rattle.std.specs.Prelude.{true, List, [], ◌≡◌, ℕ, ◌+◌, ◌≤◌, ◌<◌, length}
use Rattle.std.proofs.Math.Seq.{slice}
use Rattle.theory.specs.Grammar.{Grammar}
use Rattle.theory.specs.Levels.{Choices, within, filled, expanded}
use Rattle.theory.specs.Visits.{Costs, all_marked}
use Rattle.grammar.specs.Flat.{Flat, at, denoted, form}
use Rattle.grammar.specs.Well.{WellFormed}
use Rattle.tables.specs.Append.{Appended}
use Rattle.sentences.specs.Lent.{choices_of, lengths_of}

-- what leads the way: a choice is a production; a rule of length 0 has an empty sentence; all levels that are enough write the same, as long as the length says
pub record Leads (g : Grammar) (h : Choices) (l : Costs) : Type 0 where
  pub picks : (r : ℕ) → h.has r ≡ true → h.prod r < g.prods
  pub empty : (n r : ℕ) → within g h n r ≡ true → l r ≡ 0 → expanded g h n r ≡ []
  pub same : (m n r : ℕ) → within g h m r ≡ true → within g h n r ≡ true → expanded g h m r ≡ expanded g h n r
  pub long : (n r : ℕ) → within g h n r ≡ true → length (expanded g h n r) ≤ 65535 → l r ≡ length (expanded g h n r)

-- a well-formed grammar with its first choices and lengths
pub record Led (g : Flat) (choice lengths : List ℕ) : Type 0 where
  pub well : WellFormed g
  pub room : length choice ≡ 512
  pub long : length lengths ≡ g.rules
  pub leads : Leads (denoted g) (choices_of choice) (lengths_of lengths)

-- what copying asks: what is copied stands before the place, and there is room
pub record Copyable (from n at : ℕ) (out : List ℕ) : Type 0 where
  pub before : from + n ≤ at
  pub fits : at + n ≤ length out
  pub most : at + n ≤ 65535

-- in the list of where each rule's sentence begins: it is not written yet
abbrev pub not_written : ℕ
not_written = 65535

-- the numbers w stand from place b on, before place `to`
pub record Stood (out : List ℕ) (b : ℕ) (w : List ℕ) (to : ℕ) : Type 0 where
  pub before : b + length w ≤ to
  pub is : slice b (b + length w) out ≡ w

-- a rule that is written has its sentence where `begun` says, before place `to`
pub record Remembers (g : Flat) (choice begun : List ℕ) (to : ℕ) (out : List ℕ) : Type 0 where
  pub room : length begun ≡ 512
  pub stood : (n r : ℕ) → r < g.rules → within (denoted g) (choices_of choice) n r ≡ true → at begun r < not_written → Stood out (at begun r) (expanded (denoted g) (choices_of choice) n r) to

-- w is written from place `from` on, n is the place after it, and what is remembered then stands before that
pub record Wrote (g : Flat) (choice out : List ℕ) (from : ℕ) (w begun to : List ℕ) (n : ℕ) : Type 0 where
  pub appends : Appended out from w to n
  pub remembers : Remembers g choice begun n to

-- what a rule's expansion asks: the rule is grounded within the levels left, and its sentence fits
pub record RuleReady (g : Flat) (choice lengths : List ℕ) (levels r from : ℕ) (begun out : List ℕ) : Type 0 where
  pub led : Led g choice lengths
  pub is_rule : r < g.rules
  pub grounded : within (denoted g) (choices_of choice) levels r ≡ true
  pub fits : from + length (expanded (denoted g) (choices_of choice) levels r) ≤ length out
  pub most : from + length (expanded (denoted g) (choices_of choice) levels r) ≤ 65535
  pub remembers : Remembers g choice begun from out

-- what a production's expansion asks: each rule from symbol a up to e is grounded within the levels left, and what they stand for fits
pub record ProductionReady (g : Flat) (choice lengths : List ℕ) (levels a e from : ℕ) (begun out : List ℕ) : Type 0 where
  pub led : Led g choice lengths
  pub rise : a ≤ e
  pub inside : e ≤ length g.symbols
  pub grounded : all_marked (within (denoted g) (choices_of choice) levels) (form g.symbols a e) ≡ true
  pub fits : from + length (filled (expanded (denoted g) (choices_of choice) levels) (form g.symbols a e)) ≤ length out
  pub most : from + length (filled (expanded (denoted g) (choices_of choice) levels) (form g.symbols a e)) ≤ 65535
  pub remembers : Remembers g choice begun from out
