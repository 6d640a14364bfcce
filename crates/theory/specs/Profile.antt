-- One-token readers: what a production may start with, clashes of two productions, and the least clash.
use Rattle.std.specs.Prelude.{[], ◌∷◌, ◌⊎◌, ◌≡◌, ℕ, ◌<◌}
use Rattle.theory.specs.Grammar.{tok, Form, Grammar, Derives}
use Rattle.theory.specs.Follow.{Follow}

-- production p may start with t: its symbols derive a form starting with t; or they can vanish, and FOLLOW of its owner holds t
pub data Starts (g : Grammar) (p t : ℕ) : Type 0 where
  own : (β : Form) → Derives g (g.body p) (tok t ∷ β) → Starts g p t
  after : Derives g (g.body p) [] → Follow g (g.owner p) t → Starts g p t

-- two productions of rule r, p the lower
pub record Pair (g : Grammar) (r p q : ℕ) : Type 0 where
  pub rises : p < q
  pub is_prod : q < g.prods
  pub lower : g.owner p ≡ r
  pub higher : g.owner q ≡ r

-- they clash: they share the token t in what they may start with; or both can vanish, and T stands for the token
pub data Clash (g : Grammar) (r p q t : ℕ) : Type 0 where
  shared : Pair g r p q → Starts g p t → Starts g q t → Clash g r p q t
  both : Pair g r p q → Derives g (g.body p) [] → Derives g (g.body q) [] → t ≡ g.tokens → Clash g r p q t

-- by rule, lower production, higher production, token
abbrev pub Before : (r p q t r' p' q' t' : ℕ) → Type 0
Before r p q t r' p' q' t' = (r < r') ⊎ ((r ≡ r') × ((p < p') ⊎ ((p ≡ p') × ((q < q') ⊎ ((q ≡ q') × (t < t'))))))

-- the least clash; where T stands for its token, the two share none (`least_none`)
pub record LeastClash (g : Grammar) (r p q t : ℕ) : Type 0 where
  pub is : Clash g r p q t
  pub least : (r' p' q' t' : ℕ) → Clash g r' p' q' t' → Before r' p' q' t' r p q t → ⊥

-- a grammar passes, or its least clash is named
pub data Verdict : Type 0 where
  passes : Verdict
  clashes : (r p q t : ℕ) → Verdict

-- it passes exactly when no rule has two productions that clash
pub data Judged (g : Grammar) : Verdict → Type 0 where
  passing : ((r p q t : ℕ) → Clash g r p q t → ⊥) → Judged g passes
  clashing : {r p q t : ℕ} → LeastClash g r p q t → Judged g (clashes r p q t)
