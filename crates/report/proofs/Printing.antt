-- What is printed is the file's report.
use mathlib.Core.List.{List}
use mathlib.Core.Path.{◌≡◌, sym, ap, ◌∙◌, subst}
use Prim.Native.Nat.{ℕ, ◌*◌, ◌<◌}
use native.Mathlib.Decide.{dec_le}
use native.Mathlib.Omega.{arith}
use lib.ListN.{length, take, replicate, length-replicate}
use lib.Seq.{take_all, length-take-le}
use Rattle.grammar.specs.Outcome.{answers, refused}
use Rattle.grammar.proofs.Outcomes.{not_both, refused_one, answers_one}
use Rattle.blocks.specs.declared.Counts.{Counts}
use Rattle.grammar.specs.Lent.{outcome_of}
use Rattle.grammar.specs.declared.refusal.Refusal.{Refusal}
use Rattle.grammar.specs.Number.{number_of}
use Rattle.std.specs.Prelude.{Result, Ok, Err}
use Rattle.blocks.specs.Conditions.{Long}
use Rattle.blocks.specs.Layout.{grammar_of}
use Rattle.blocks.specs.Reading.{Lists, lists, read_of, Read}
use Rattle.blocks.specs.Steps.{fronts}
use Rattle.blocks.proofs.Saying.{Held, read_says, read_holds, over_refused}
use Rattle.lines.specs.Line.{refused_of}
use Rattle.lines.specs.Report.{GrammarReport}
use Rattle.report.specs.Report.{Reports, Prints}

-- from what the reader says of a file, its report
refuses_report : (file bytes : List ℕ) (n : ℕ) → read_of file ≡ refused n → bytes ≡ refused_of n → Reports file bytes
refuses_report file bytes n e b = record {
  whole = λ c q. absurd (not_both (sym q ∙ e));
  refuses = λ m q. b ∙ ap refused_of (refused_one (sym e ∙ q));
}

counts_report : (file bytes : List ℕ) (c : Counts) → read_of file ≡ answers c → GrammarReport (grammar_of file c) bytes → Reports file bytes
counts_report file bytes c e x = record {
  whole = λ k q. subst (λ z. GrammarReport (grammar_of file z) bytes) (answers_one (sym e ∙ q)) x;
  refuses = λ m q. absurd (not_both (sym e ∙ q));
}

-- `file_report`: the four lists are of the limits' lengths
abbrev zeros : Lists
zeros = lists (replicate 4096 0) (replicate 4097 0) (replicate 16384 0) (replicate 512 0)

zeros_long : Long zeros
zeros_long = record { owners = length-replicate {0} {A = ℕ} 4096 0; starts = length-replicate {0} {A = ℕ} 4097 0; symbols = length-replicate {0} {A = ℕ} 16384 0; costs = length-replicate {0} {A = ℕ} 512 0 }

module _ (file owners starts symbols costs : List ℕ) (r : Result Counts Refusal) (x : Read file zeros r (lists owners starts symbols costs)) where
  pub file_held : (c : Counts) → r ≡ Ok c → Held file c owners starts symbols costs
  file_held c e = read_holds file zeros zeros_long owners starts symbols costs r x c (ap outcome_of e)

  pub file_whole : (c : Counts) → r ≡ Ok c → (bytes : List ℕ) → GrammarReport (fronts c owners starts symbols costs) bytes → Reports file bytes
  file_whole c e bytes y =
      counts_report file bytes c (sym (read_says file zeros zeros_long owners starts symbols costs r x) ∙ ap outcome_of e)
      (subst (λ g. GrammarReport g bytes) (file_held c e).holds y)

  pub file_refused : (why : Refusal) → r ≡ Err why → (n : ℕ) → n ≡ number_of why → (bytes : List ℕ) → bytes ≡ refused_of n → Reports file bytes
  file_refused why e n q bytes b = refuses_report file bytes (number_of why) (sym (read_says file zeros zeros_long owners starts symbols costs r x) ∙ ap outcome_of e) (b ∙ ap refused_of q)

-- `main`: a report of the bytes that were read is one of the file that begins with them, since a file that is longer than the room is refused with 20 as its front is
pub prints : (room n : ℕ) (buffer bytes : List ℕ) → 512 * 98 < room → Reports (take n buffer) bytes → Prints room (take n buffer) bytes
prints room n buffer bytes l x file e = elim (dec_le (length file) room) [
  | yes k ↦ subst (λ f. Reports f bytes) (sym e ∙ take_all room file k) x
  | no k ↦
      let a : length (take n buffer) ≡ room = sym (ap length e) ∙ length-take-le room file (omega arith) in
      refuses_report file bytes 20 (over_refused file (omega arith)) (x.refuses 20 (over_refused (take n buffer) (omega (arith, a))))
]
