-- The test whether a production is plain.
use mathlib.Core.Bool.{true}
use mathlib.Core.List.{List, ◌∷◌}
use mathlib.Core.Path.{◌≡◌}
use Prim.Native.Nat.{ℕ, ◌+◌, ◌≤◌, ◌<◌}
use native.Mathlib.Decide.{dec_lt}
use native.Mathlib.Omega.{arith}
use lib.Dec.{ltb}
use lib.ListN.{length}
use borrow.Author.Tests.{lt-ltb, le-ltb}
use Rattle.grammar.specs.Flat.{at, symbol, form}
use Rattle.grammar.proofs.Forms.{form_done, form_more, symbol_token, symbol_rule}
use Rattle.engine.specs.First.{plain, Stretches}

-- `is_plain`
module _ (starts symbols : List ℕ) (p : ℕ) (ok : Stretches starts symbols p) (a e : ℕ) (ea : a ≡ at starts p) (ee : e ≡ at starts (p + 1)) where
  pub plain_none : e ≤ a → true ≡ plain (form symbols (at starts p) (at starts (p + 1)))
  plain_none l = rw (form_done symbols (at starts p) (at starts (p + 1)) ok.rise (omega arith))

  module _ (l : a < e) where
    pub plain_in : a < length symbols
    plain_in = omega (arith, ok.fits)

    begins : form symbols (at starts p) (at starts (p + 1)) ≡ symbol (at symbols a) ∷ form symbols (a + 1) e
    begins = rw (← ea, ← ee) (form_more symbols a e l (omega (arith, ok.fits)))

    pub plain_some : (s : ℕ) → s ≡ at symbols a → ltb s 32768 ≡ plain (form symbols (at starts p) (at starts (p + 1)))
    plain_some s es = rw begins (go (dec_lt s 32768))
      where
        go : Dec (s < 32768) → ltb s 32768 ≡ plain (symbol (at symbols a) ∷ form symbols (a + 1) e)
        go (yes k) = rw (lt-ltb s 32768 k, ← es, symbol_token s k)
        go (no k) = rw (le-ltb s 32768 (omega arith), ← es, symbol_rule s (omega arith))
