-- The profile by tables: what the marks of FIRST, EMPTY and FOLLOW say of a production, and of two.
use Rattle.std.specs.Prelude.{Bool, true, ◌&&◌, ◌||◌, cond, ◌⊎◌, ◌≡◌, ℕ, zero, suc, ◌≤◌, ◌<◌, eqb, leb, ltb}
use Rattle.theory.specs.Below.{some}
use Rattle.theory.specs.Grammar.{Grammar}
use Rattle.theory.specs.Profile.{Verdict, passes, clashes}
use Rattle.theory.specs.Visits.{Table, Marks, nullable, first_of}

-- what production p may start with
abbrev pub starts_of : Grammar → Marks → Table → (p t : ℕ) → Bool
starts_of g m f p t = first_of m (g.body p) t || (nullable m.empty (g.body p) && f (g.owner p) t)

-- its row of T+1 marks: what it may start with, and in the place of T whether it can vanish
unfoldable pub row_of : Grammar → Marks → Table → (p t : ℕ) → Bool
row_of g m f p t = cond (ltb t g.tokens) (starts_of g m f p t) (eqb t g.tokens && nullable m.empty (g.body p))

-- a mark that two rows share: a token, or T where both can vanish
abbrev pub shares_of : Grammar → Marks → Table → (p q t : ℕ) → Bool
shares_of g m f p q t = row_of g m f p t && row_of g m f q t

-- q is a higher production of p's owner that clashes with p
abbrev pub pair_of : Grammar → Marks → Table → (p q : ℕ) → Bool
pair_of g m f p q = (ltb p q && eqb (g.owner q) (g.owner p)) && some (suc g.tokens) (shares_of g m f p q)

-- p is a production of rule r, and some higher one clashes with it
abbrev pub low_of : Grammar → Marks → Table → (r p : ℕ) → Bool
low_of g m f r p = eqb (g.owner p) r && some g.prods (pair_of g m f p)

-- rule r has a clash
abbrev pub rule_of : Grammar → Marks → Table → ℕ → Bool
rule_of g m f r = some g.prods (low_of g m f r)

-- the marks of the rows of rule r's productions from number i on
abbrev pub above_of : Grammar → Marks → Table → (i r t : ℕ) → Bool
above_of g m f i r t = some g.prods (λ q. (leb i q && eqb (g.owner q) r) && row_of g m f q t)

-- of the productions from number i on that have a clash with a higher one: the least rule, and its lowest; rule R where there is none
pub record Lowest (g : Grammar) (m : Marks) (f : Table) (i rule lower : ℕ) : Type 0 where
  pub is_prod : rule < g.rules → lower < g.prods
  pub is_low : rule < g.rules → low_of g m f rule lower ≡ true
  pub least : (p : ℕ) → i ≤ p → p < g.prods → low_of g m f (g.owner p) p ≡ true → (rule < g.owner p) ⊎ ((rule ≡ g.owner p) × (lower ≤ p))

-- the first number below n that passes, n where none does
abbrev pub least_of : (ℕ → Bool) → ℕ → ℕ
least_of f zero = 0
least_of f (suc n) = cond (ltb (least_of f n) n) (least_of f n) (cond (f n) n (suc n))

-- the verdict by the tests
abbrev pub verdict_by : Grammar → Marks → Table → Verdict
verdict_by g m f =
    let r = least_of (rule_of g m f) g.rules in
    let p = least_of (low_of g m f r) g.prods in
    let q = least_of (pair_of g m f p) g.prods in
    cond (ltb r g.rules) (clashes r p q (least_of (shares_of g m f p q) (suc g.tokens))) passes
