-- The tables that a line is written from, and what they hold of a rule.
use Rattle.std.specs.Prelude.{Bool, not, ◌||◌, List, ◌≡◌, ℕ, ◌*◌, ◌≤◌, ◌<◌, eqb, length}
use Rattle.grammar.specs.Flat.{at}
use Rattle.rows.specs.Marks.{mark}
use Rattle.tables.specs.Sizes.{words, table_wrong, row_wrong, numbers_wrong}
use Rattle.lines.specs.Text.{members}
use Rattle.lines.specs.Line.{Entry, price_of}

-- EMPTY, FIRST, FOLLOW and COST
pub record Tables : Type 0 where
  pub empty : List ℕ
  pub first : List ℕ
  pub follow : List ℕ
  pub cost : List ℕ

-- the four together
abbrev pub tables : (empty first follow cost : List ℕ) → Tables
tables empty first follow cost = record { empty = empty; first = first; follow = follow; cost = cost }

-- 7: a lent table is not of its exact length
unfoldable pub tables_wrong : (R T : ℕ) → Tables → Bool
tables_wrong R T l = row_wrong R l.empty || (table_wrong R T l.first || (table_wrong R T l.follow || numbers_wrong R l.cost))

-- 7: the lent room is not 4096 bytes long
unfoldable pub out_wrong : List ℕ → Bool
out_wrong out = not (eqb (length out) 4096)

-- what the tables hold of rule r, of R, over the tokens below T
abbrev pub entry_of : (R T r : ℕ) → Tables → Entry
entry_of R T r l = record {
  number = r;
  empty = mark (words R) l.empty 0 r;
  first = members T (mark (words T) l.first r);
  follow = members T (mark (words T) l.follow r);
  cost = price_of (at l.cost r);
}

-- what writing a line asks: the limits, one of the rules, tables of their exact lengths, and room of 4096 bytes
pub record Ready (R T r : ℕ) (l : Tables) (out : List ℕ) : Type 0 where
  pub few_rules : R ≤ 512
  pub few_tokens : T ≤ 512
  pub rule : r < R
  pub empty : length l.empty ≡ words R
  pub first : length l.first ≡ R * words T
  pub follow : length l.follow ≡ R * words T
  pub cost : length l.cost ≡ R
  pub room : length out ≡ 4096
