-- A sentence that is answered fits the room that was lent for it.
use Rattle.std.proofs.Common.{◌≡◌, ℕ, ◌≤◌, List, Ok, length, refl, ap, arith, length-append}
use Rattle.grammar.specs.Flat.{Flat}
use Rattle.grammar.specs.Outcome.{Outcome, answers, refused}
use Rattle.grammar.proofs.Outcomes.{not_both}
use Rattle.sentences.specs.Query.{lends, sentence_due, MinSentence}
use Rattle.sentences.proofs.Exactly.{cheapest}

pub sentence_fits : (g : Flat) (r : ℕ) (cost lengths out : List ℕ) {n : ℕ} {cost' lengths' out' : List ℕ} → MinSentence g r cost lengths out (Ok n) cost' lengths' out' → n ≤ length out'
sentence_fits g r cost lengths out {n} {out' = out'} m = go (sentence_due g r (lends cost lengths out)) refl
  where
    go : (d : Outcome (Unit {0})) → sentence_due g r (lends cost lengths out) ≡ d → n ≤ length out'
    go (refused k) e = absurd (not_both (m.refuses k e))
    go (answers tt) e = let x = cheapest g r out (m.does e) in omega (arith, x.long, simp length-append at (ap length x.tokens))
