-- A grammar and the same with one token dearer: what becomes of the cost query's answer.
use Rattle.std.specs.Prelude.{List, ◌≡◌, ℕ, ◌+◌, ◌*◌, ◌<◌, length}
use Rattle.theory.specs.Definitions.{Sentence, cost_of}
use Rattle.theory.specs.Dearer.{GoesUp, occurs, Dearer}
use Rattle.theory.specs.Entries.{cost_max}
use Rattle.grammar.specs.Flat.{Flat, flat, denoted, price}
use Rattle.grammar.specs.Outcome.{Outcome, answers, refused}

-- h is g with token t's cost raised by d; the costs of a lent grammar are bytes, so it stays within one
pub record OneDearer (g : Flat) (t d : ℕ) (h : Flat) : Type 0 where
  pub same : h ≡ flat g.rules g.owners g.starts g.symbols h.costs
  pub long : length h.costs ≡ length g.costs
  pub up : GoesUp (price g) t d (price h)

-- the answer for rule r before and after: no sentence stays so, a dear rule stays dear, a cost goes up as `Dearer` has it, or becomes dear where every old cheapest sentence has come above 65535
pub data Becomes (g : Flat) (t d r : ℕ) : (before after : Outcome ℕ) → Type 0 where
  none : Becomes g t d r (refused 12) (refused 12)
  dear : Becomes g t d r (refused 13) (refused 13)
  rises : {m n : ℕ} → Dearer (denoted g) (price g) t d r m n → Becomes g t d r (answers m) (answers n)
  passes : {m : ℕ} → ((w : List ℕ) → Sentence (denoted g) r w → cost_of (price g) w ≡ m → cost_max < m + d * occurs t w) → Becomes g t d r (answers m) (refused 13)
