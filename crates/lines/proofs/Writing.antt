-- The line of a rule: its front, its sets and its back, from what the tables hold.
use mathlib.Core.Bool.{Bool}
use mathlib.Core.List.{List, ◌++◌}
use mathlib.Core.Path.{◌≡◌, sym, ◌∙◌}
use Prim.Native.Nat.{ℕ, ◌*◌, ◌≤◌, ◌<◌}
use native.Mathlib.Nat.{mul-le-mul_right}
use native.Mathlib.Omega.{arith}
use lib.ListN.{length, length-append}
use Rattle.grammar.specs.Flat.{at}
use Rattle.rows.specs.Marks.{mark}
use Rattle.tables.specs.Sizes.{words}
use Rattle.lines.specs.Text.{members}
use Rattle.lines.specs.Line.{price_of, line_of}
use Rattle.tables.specs.Append.{Appended}
use Rattle.lines.specs.Append.{Room, Row, row_of, front_of, row_with, sets_of, back_of}
use Rattle.lines.specs.Lent.{tables, entry_of, Ready}
use Rattle.tables.proofs.Appending.{appended_long, appended_then}
use Rattle.lines.proofs.Fields.{line_parts, parts_made}
use Rattle.lines.proofs.Length.{front_long, row_long, back_long}

-- row r of R stands in a table of its length
in_table : (R T W r : ℕ) (table : List ℕ) → W ≡ words T → r < R → length table ≡ R * words T → Row T W table r
in_table R T W r table e l h = record {
  fits = omega (arith, e);
  within = rw (e, h) (omega (arith, mul-le-mul_right (words T) l));
}

module _ (R T r : ℕ) (empty first follow cost ws : List ℕ) (x : Ready R T r (tables empty first follow cost) ws) where
  pub write_first : (W : ℕ) → W ≡ words T → Row T W first r
  write_first W e = in_table R T W r first e x.rule x.first

  pub write_follow : (W : ℕ) → W ≡ words T → Row T W follow r
  write_follow W e = in_table R T W r follow e x.rule x.follow

  pub write_front : (b : Bool) → Room ws 0 (front_of r b)
  write_front b = record { fits = omega (arith, x.room, x.few_rules, x.rule, front_long r b (omega (arith, x.few_rules, x.rule))) }

  module _ (b : Bool) (w1 : List ℕ) (a : ℕ) (y : Appended ws 0 (front_of r b) w1 a) where
    -- after the front
    after_front : (length w1 ≡ 4096) × (a ≤ 6)
    after_front = (appended_long y ∙ x.room, omega (arith, y.next, front_long r b (omega (arith, x.few_rules, x.rule))))

    module _ (f h : ℕ → Bool) where
      sets_long : length (sets_of (members T f) (members T h)) ≤ 3876
      unfolding sets_of
      sets_long = omega (arith, row_long f T x.few_tokens, row_long h T x.few_tokens, length-append (row_with (members T f)) (row_with (members T h)))

      pub write_sets : Room w1 a (sets_of (members T f) (members T h))
      write_sets = record { fits = omega (arith, after_front, sets_long) }

      pub write_back : (w2 : List ℕ) (d : ℕ) → Appended w1 a (sets_of (members T f) (members T h)) w2 d → (n : ℕ) → Room w2 d (back_of (price_of n))
      write_back w2 d z n = record { fits = omega (arith, after_front, appended_long z, z.next, sets_long, back_long n) }

  module _ (w : ℕ) (ew : w ≡ words R) (b : Bool) (eb : b ≡ mark w empty 0 r) (W : ℕ) (eW : W ≡ words T) (n : ℕ) (en : n ≡ at cost r) where
    line_is : line_of (entry_of R T r (tables empty first follow cost)) ≡ front_of r b ++ (sets_of (row_of T W first r) (row_of T W follow r) ++ back_of (price_of n))
    line_is = line_parts (entry_of R T r (tables empty first follow cost)) ∙ sym (rw (eb, ew, eW, en))

    pub write_made : (w1 w2 to : List ℕ) (a d m : ℕ) → Appended ws 0 (front_of r b) w1 a → Appended w1 a (sets_of (row_of T W first r) (row_of T W follow r)) w2 d → Appended w2 d (back_of (price_of n)) to m → Appended ws 0 (line_of (entry_of R T r (tables empty first follow cost))) to m
    write_made w1 w2 to a d m y z v = parts_made ws 0 _ (front_of r b) _ line_is w1 to a m y (appended_then z v)
