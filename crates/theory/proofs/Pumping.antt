-- A loop that adds cost makes costs without bound.
use mathlib.Core.List.{List, [], ◌∷◌, ◌++◌, map, append_assoc}
use mathlib.Core.Path.{◌≡◌, refl}
use Prim.Native.Nat.{ℕ, zero, suc, ◌+◌, ◌≤◌, ◌<◌}
use native.Mathlib.Omega.{arith}
use Rattle.theory.specs.Grammar.{tok, rul, Form, Grammar, Derives, done}
use Rattle.theory.specs.Definitions.{Sentence, Productive, cost_of}
use Rattle.theory.specs.Dearest.{Unbounded}
use Rattle.theory.proofs.Yields.{Yields, keep, yields_append, derives→yields, yields→derives, by_prod, derives_trans, derives_under, map_append}
use Rattle.theory.proofs.Cost.{cost_append}

-- α derives a form of tokens with one rule b in it, and the tokens cost d
pub record Around (g : Grammar) (k : ℕ → ℕ) (α : Form) (b d : ℕ) : Type 0 where
  pub left : List ℕ
  pub right : List ℕ
  pub derives : Derives g α (map tok left ++ (rul b ∷ map tok right))
  pub adds : cost_of k left + cost_of k right ≡ d

-- r leads to a rule that has a sentence and leads to itself with a gain
pub record GainingLoop (g : Grammar) (k : ℕ → ℕ) (r : ℕ) : Type 0 where
  pub at : ℕ
  pub into : ℕ
  pub gain : ℕ
  pub leads : Around g k (rul r ∷ []) at into
  pub turns : Around g k (rul at ∷ []) at (suc gain)
  pub ends : Productive g at

module _ {g : Grammar} {k : ℕ → ℕ} where
  pub around_self : (r : ℕ) → Around g k (rul r ∷ []) r 0
  around_self r = record { left = []; right = []; derives = done; adds = refl }

  pub around_on : {α : Form} {b c d e : ℕ} → Around g k α b d → Around g k (rul b ∷ []) c e → Around g k α c (d + e)
  around_on {α} {b} {c} x y = record {
    left = x.left ++ y.left;
    right = y.right ++ x.right;
    derives = derives_trans x.derives (simp (map_append, append_assoc) (simp append_assoc at (derives_under (map tok x.left) (map tok x.right) y.derives)));
    adds = omega (arith, x.adds, y.adds, cost_append k x.left y.left, cost_append k y.right x.right);
  }

  -- more tokens in front of the rule, or after it
  pub around_front : {α β : Form} {b d : ℕ} (x : List ℕ) → Yields g β (map tok x) → Around g k α b d → Around g k (β ++ α) b (cost_of k x + d)
  around_front x y l = record {
    left = x ++ l.left;
    right = l.right;
    derives = simp (map_append, append_assoc) (yields→derives (yields_append y (derives→yields l.derives)));
    adds = omega (arith, l.adds, cost_append k x l.left);
  }

  pub around_here : {α : Form} (r : ℕ) (x : List ℕ) → Yields g α (map tok x) → Around g k (rul r ∷ α) r (cost_of k x)
  around_here r x y = record { left = []; right = x; derives = yields→derives (keep (rul r) y); adds = omega arith }

  -- a rule leads where one of its productions does
  pub around_prod : {b d : ℕ} (p : ℕ) → p < g.prods → {r : ℕ} → g.owner p ≡ r → Around g k (g.body p) b d → Around g k (rul r ∷ []) b d
  around_prod p lt o l = record { left = l.left; right = l.right; derives = by_prod p lt o (derives→yields l.derives); adds = l.adds }

  -- a form that leads to a rule with a sentence
  pub around_sentence : {α : Form} {b d : ℕ} → Around g k α b d → (w : List ℕ) → Sentence g b w → (v : List ℕ) × Derives g α (map tok v) × (cost_of k v ≡ d + cost_of k w)
  around_sentence x w s = (
    x.left ++ (w ++ x.right),
    rw (map_append x.left (w ++ x.right), map_append w x.right) (derives_trans x.derives (derives_under (map tok x.left) (map tok x.right) s)),
    omega (arith, x.adds, cost_append k x.left (w ++ x.right), cost_append k w x.right),
  )

  -- round and round
  turning : {q e : ℕ} → Around g k (rul q ∷ []) q (suc e) → (m : ℕ) → (d : ℕ) × Around g k (rul q ∷ []) q d × (m ≤ d)
  turning {q} x zero = (0, around_self q, omega arith)
  turning x (suc m) = let y = turning x m in (_, around_on x y.1, omega (arith, y.2))

  pub loop_unbounded : {r : ℕ} → GainingLoop g k r → Unbounded g k r
  loop_unbounded l m =
      let y = turning l.turns m in
      let z = around_sentence (around_on l.leads y.1) l.ends.0 l.ends.1 in
      (z.0, z.1, omega (arith, y.2, z.2))

  -- what leads to a loop has one
  pub loop_on : {r b d : ℕ} → Around g k (rul r ∷ []) b d → GainingLoop g k b → GainingLoop g k r
  loop_on x l = record { at = l.at; into = _; gain = l.gain; leads = around_on x l.leads; turns = l.turns; ends = l.ends }

  pub loop_productive : {r : ℕ} → GainingLoop g k r → Productive g r
  loop_productive l = let z = around_sentence l.leads l.ends.0 l.ends.1 in (z.0, z.1)
