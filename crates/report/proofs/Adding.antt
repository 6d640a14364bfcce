-- What is appended to the report: a line that a call wrote, and the lines of the rules.
use Rattle.grammar.specs.declared.refusal.Refusal.{Refusal}
use Rattle.std.specs.Prelude.{Result, Ok, Err}
use Rattle.grammar.specs.Lent.{outcome_of}
use mathlib.Core.List.{List, [], ◌++◌}
use mathlib.Core.Path.{◌≡◌, refl, sym, ap, ◌∙◌, subst}
use Prim.Native.Nat.{ℕ, ◌+◌, ◌*◌, ◌^◌, ◌≤◌, ◌<◌}
use native.Mathlib.Nat.{le_antisymm}
use native.Mathlib.Numerals.{add-one}
use native.Mathlib.Omega.{arith}
use lib.ListN.{length, take, drop, length-append}
use lib.Seq.{take_at, length-take-le}
use borrow.Author.Tests.{eq-eqb}
use Rattle.grammar.specs.Flat.{Flat}
use Rattle.grammar.specs.Outcome.{answers}
use Rattle.grammar.proofs.Outcomes.{not_both, answers_one}
use Rattle.tables.specs.Append.{Appended, Writes}
use Rattle.tables.specs.Call.{Call}
use Rattle.tables.proofs.Appending.{appended_none, appended_long, appended_then, writes}
use Rattle.lines.specs.Append.{Room}
use Rattle.lines.specs.Line.{line_of, heading_of, refused_of}
use Rattle.lines.specs.Lent.{Tables, out_wrong, entry_of}
use Rattle.lines.specs.Calls.{out_due, Heading, RefusedLine, Line}
use Rattle.lines.specs.Report.{none, more, GrammarReport}
use Rattle.lines.proofs.Length.{line_short, refused_long}
use Rattle.lines.proofs.Printing.{line_due_law}
use Rattle.lines.proofs.Saying.{line_says}
use Rattle.report.specs.Steps.{line_room, report_room, line_in, Stands, Ready, LineAdded, LinesAdded}

-- `append`
pub append_none : (w : Result ℕ Refusal) (line out : List ℕ) (at : ℕ) (e : Refusal) → w ≡ Err e → Appended out at (line_in w line) out at
append_none w line out at n e = rw e (appended_none out at)

module _ (w : Result ℕ Refusal) (line : List ℕ) (n : ℕ) (e : w ≡ Ok n) (end : ℕ) (q : end ≡ n) where
  is_line : line_in w line ≡ take end line
  is_line = rw (e, q)

  pub append_part : Stands w line → end ≡ length (take end line)
  append_part s = sym (length-take-le end line (omega (arith, q, s.most n e)))

  pub append_room : (out : List ℕ) (at : ℕ) → Room out at (line_in w line) → Room out at (take end line)
  append_room out at r = subst (λ bytes. Room out at bytes) is_line r

  pub append_made : (out to : List ℕ) (at next : ℕ) → Appended out at (take end line) to next → Appended out at (line_in w line) to next
  append_made out to at next x = subst (λ bytes. Appended out at bytes to next) (sym is_line) x

-- what a call wrote stands at the front of its buffer
line_is : (bytes buffer to : List ℕ) (w : Result ℕ Refusal) → Writes bytes buffer (outcome_of w) to → line_in w to ≡ bytes
line_is bytes buffer to (Ok n) x = ap (λ l. take n l) x.left ∙ take_at bytes (drop (length bytes) buffer) n (sym (answers_one x.counts))
line_is bytes buffer to (Err e) x = absurd (not_both (sym x.counts))

module _ (bytes buffer to : List ℕ) (w : Result ℕ Refusal) (x : Writes bytes buffer (outcome_of w) to) where
  wrote_stands : Stands w to
  wrote_stands = record {
    most = λ n e.
        let q : n ≡ length bytes = answers_one (sym (ap outcome_of e) ∙ x.counts) in
        omega (arith, q, ap length x.left, length-append bytes (drop (length bytes) buffer));
  }

  wrote_room : (out : List ℕ) (at : ℕ) → at + length bytes ≤ length out → Room out at (line_in w to)
  wrote_room out at h = record { fits = omega (arith, ap length (line_is bytes buffer to w x)) }

  wrote_made : (out out' : List ℕ) (at next : ℕ) → Appended out at (line_in w to) out' next → Appended out at bytes out' next
  wrote_made out out' at next y = subst (λ b. Appended out at b out' next) (line_is bytes buffer to w x) y

-- bytes that are appended from place 0 on stand at the front
module _ (bytes out to : List ℕ) (n : ℕ) (x : Appended out 0 bytes to n) (l : length bytes ≤ length out) where
  front_within : n ≤ length to
  front_within = omega (arith, x.next, appended_long x)

  front_is : take n to ≡ bytes
  front_is = let y = writes bytes out to n n l x refl in line_is bytes out to (Ok n) y

-- `heading` and `refusal`
out_due_law : (out : List ℕ) → length out ≡ 4096 → out_due out ≡ answers tt
unfolding out_wrong
out_due_law out e = rw (eq-eqb (length out) 4096 e)

module _ (bytes buffer to : List ℕ) (w : Result ℕ Refusal) (l : length buffer ≡ 4096) (x : Call (out_due buffer) (Writes bytes buffer) buffer (outcome_of w) to) where
  wrote : Writes bytes buffer (outcome_of w) to
  wrote = x.does (out_due_law buffer l)

  pub text_stands : Stands w to
  text_stands = wrote_stands bytes buffer to w wrote

  text_room : (out : List ℕ) → length bytes ≤ length out → Room out 0 (line_in w to)
  text_room out h = wrote_room bytes buffer to w wrote out 0 (omega arith)

  pub text_made : (out out' : List ℕ) (next : ℕ) → Appended out 0 (line_in w to) out' next → Appended out 0 bytes out' next
  text_made out out' next = wrote_made bytes buffer to w wrote out out' 0 next

module _ (buffer to : List ℕ) (w : Result ℕ Refusal) (l : length buffer ≡ 4096) (out : List ℕ) (h : report_room ≤ length out) where
  pub heading_room : Heading buffer w to → Room out 0 (line_in w to)
  heading_room x = text_room heading_of buffer to w l x out (omega arith)

  module _ (n : ℕ) (k : n < 2 ^ 16) (x : RefusedLine n buffer w to) where
    refused_fits : length (refused_of n) ≤ length out
    refused_fits = omega (arith, refused_long n (omega arith))

    pub refused_room : Room out 0 (line_in w to)
    refused_room = text_room (refused_of n) buffer to w l x out refused_fits

    module _ (out' : List ℕ) (r : ℕ) (y : Appended out 0 (line_in w to) out' r) where
      pub refused_within : r ≤ length out'
      refused_within = front_within (refused_of n) out out' r (text_made (refused_of n) buffer to w l x out out' r y) refused_fits

      pub refused_is : take r out' ≡ refused_of n
      refused_is = front_is (refused_of n) out out' r (text_made (refused_of n) buffer to w l x out out' r y) refused_fits

-- `rule_line`
module _ (g : Flat) (l : Tables) (y : Ready g l) (r : ℕ) (lr : r < g.rules) (buffer to : List ℕ) (w : Result ℕ Refusal) (x : Line g r l buffer w to) (e : length buffer ≡ 4096) where
  abbrev bytes : List ℕ
  bytes = line_of (entry_of g.rules (length g.costs) r l)

  line_wrote : Writes bytes buffer (outcome_of w) to
  line_wrote = x.does (line_due_law g y.well l y.defined r lr buffer e)

  line_fits : length bytes ≤ line_room
  line_fits = line_short g y.well r lr l

  pub line_stands : Stands w to
  line_stands = wrote_stands bytes buffer to w line_wrote

  pub line_room_law : (out : List ℕ) (at : ℕ) → at + line_room ≤ length out → Room out at (line_in w to)
  line_room_law out at h = wrote_room bytes buffer to w line_wrote out at (omega (arith, line_fits))

  pub line_added : (out out' : List ℕ) (at next : ℕ) → Appended out at (line_in w to) out' next → LineAdded g r out at out' next
  line_added out out' at next m = record {
    entry = entry_of g.rules (length g.costs) r l;
    says = line_says g l y.defined r lr;
    short = line_fits;
    made = wrote_made bytes buffer to w line_wrote out out' at next m;
  }

-- `rule_lines`: the lines of the rules below r are appended
pub record Lining (g : Flat) (out : List ℕ) (from : ℕ) (to : List ℕ) (next r : ℕ) : Type 0 where
  pub high : r ≤ g.rules
  pub added : LinesAdded g r out from to next

module _ (g : Flat) (out : List ℕ) (from : ℕ) where
  pub lining_start : Lining g out from out from 0
  lining_start = record { high = omega arith; added = record { lines = []; each = none; short = omega arith; made = appended_none out from } }

  module _ (to : List ℕ) (next r : ℕ) (x : Lining g out from to next r) where
    pub lining_long : length to ≡ length out
    lining_long = appended_long x.added.made

    pub lining_room : r < g.rules → g.rules ≤ 512 → from + 512 * line_room ≤ length out → next + line_room ≤ length to
    lining_room l h k = omega (arith, lining_long, x.added.made.next, x.added.short)

    pub lining_on : r < g.rules → (to' : List ℕ) (next' : ℕ) → LineAdded g r to next to' next' → Lining g out from to' next' (r + 1)
    lining_on l to' next' y = record {
      high = omega arith;
      added = subst (λ k. LinesAdded g k out from to' next') (sym (add-one r)) (record {
        lines = x.added.lines ++ line_of y.entry;
        each = more y.entry x.added.each y.says refl;
        short = omega (arith, x.added.short, y.short, length-append x.added.lines (line_of y.entry));
        made = appended_then x.added.made y.made;
      });
    }

    pub lining_end : g.rules ≤ r → LinesAdded g g.rules out from to next
    lining_end l = subst (λ k. LinesAdded g k out from to next) (le_antisymm x.high l) x.added

-- `lines_report`: the heading and then the lines are the report
module _ (g : Flat) (out mid to : List ℕ) (at r : ℕ) (room : report_room ≤ length out) (few : g.rules ≤ 512) (x : Appended out 0 heading_of mid at) where
  pub lines_room : at + 512 * line_room ≤ length mid
  lines_room = omega (arith, x.next, appended_long x)

  module _ (y : LinesAdded g g.rules mid at to r) where
    short : length (heading_of ++ y.lines) ≤ length out
    short = omega (arith, y.short, length-append heading_of y.lines)

    pub report_within : r ≤ length to
    report_within = front_within (heading_of ++ y.lines) out to r (appended_then x y.made) short

    pub report_is : GrammarReport g (take r to)
    report_is = record { lines = y.lines; each = y.each; is = front_is (heading_of ++ y.lines) out to r (appended_then x y.made) short }
