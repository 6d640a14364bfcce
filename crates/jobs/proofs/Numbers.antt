-- What a kind's step asks, and what it leaves among all the tables.
use mathlib.Core.Bool.{Bool, false, false≢true}
use mathlib.Core.List.{List}
use mathlib.Core.Path.{◌≡◌, refl, sym, ap, subst}
use Prim.Native.Nat.{ℕ}
use lib.ListN.{length}
use Rattle.grammar.specs.Flat.{Flat}
use Rattle.tables.specs.Call.{Stepped}
use Rattle.engine.specs.First.{lent as firsts, Ready as FirstReady, FirstBecame}
use Rattle.engine.specs.Follow.{FollowBecame, StepReady as FollowReady}
use Rattle.engine.specs.Productive.{RowReady, ProductiveBecame}
use Rattle.engine.specs.Cost.{Lowerable, Lowers}
use Rattle.jobs.specs.declared.kind.Kind.{Kind as Named}
use Rattle.jobs.specs.declared.kind.Kind.TheVariants.{First, Follow, Productive, Cost}
use Rattle.jobs.specs.Kinds.{Tables, tables, read_of, kind_of, kind_number, Visit, Ready}

module _ (n : Named) (g : Flat) (p : ℕ) (a e f r c h : List ℕ) where
  abbrev t : Tables
  t = tables a e f r c h

  ready : (k : Named) → n ≡ k → Ready (kind_of (kind_number n) t) g p t → Ready (kind_of (kind_number k) t) g p t
  ready k q x = subst (λ z. Ready (kind_of (kind_number z) t) g p t) q x

  visited : (k : Named) → n ≡ k → (x : Bool) (b : Tables) → Visit (kind_of (kind_number k) t) g p t x b → Visit (kind_of (kind_number n) t) g p t x b
  visited k q x b v = subst (λ z. Visit (kind_of (kind_number z) t) g p t x b) (sym q) v

  module _ (q : n ≡ First) where
    pub ready_first : Ready (kind_of (kind_number n) t) g p t → FirstReady g p (firsts a e)
    ready_first x = let y = ready First q x in record { well = y.well; is_prod = y.is_prod; held = y.held }

    pub made_first : (x : Bool) (a' e' : List ℕ) → Stepped (FirstBecame g p (firsts a e)) (firsts a e) x (firsts a' e') → Visit (kind_of (kind_number n) t) g p t x (tables a' e' f r c h)
    made_first x a' e' s = visited First q x (tables a' e' f r c h) (record {
      became = record { step = s.became; others = refl };
      told = λ k z. s.told k (ap (λ y. firsts y.first y.empty) z);
      still = λ k. ap (λ y. tables y.first y.empty f r c h) (s.still k);
    })

  module _ (q : n ≡ Follow) where
    pub ready_follow : Ready (kind_of (kind_number n) t) g p t → FollowReady g p false (read_of t) f
    ready_follow x = let y = ready Follow q x in record {
      ready = record { first = record { well = y.well; is_prod = y.is_prod; held = y.held.firsts }; reached = y.held.reached; follows = y.held.follows };
      feeds = λ k. absurd (false≢true k);
    }

    pub made_follow : (x : Bool) (f' : List ℕ) → Stepped (FollowBecame g (read_of t) p f) f x f' → Visit (kind_of (kind_number n) t) g p t x (tables a e f' r c h)
    made_follow x f' s = visited Follow q x (tables a e f' r c h) (record {
      became = record { step = s.became; others = refl };
      told = λ k z. s.told k (ap (λ y. y.follow) z);
      still = λ k. ap (λ y. tables a e y r c h) (s.still k);
    })

  module _ (q : n ≡ Productive) where
    pub ready_row : Ready (kind_of (kind_number n) t) g p t → RowReady g p r
    ready_row x = let y = ready Productive q x in record { well = y.well; is_prod = y.is_prod; held = y.held }

    pub made_row : (x : Bool) (r' : List ℕ) → Stepped (ProductiveBecame g p r) r x r' → Visit (kind_of (kind_number n) t) g p t x (tables a e f r' c h)
    made_row x r' s = visited Productive q x (tables a e f r' c h) (record {
      became = record { step = s.became; others = refl };
      told = λ k z. s.told k (ap (λ y. y.productive) z);
      still = λ k. ap (λ y. tables a e f y c h) (s.still k);
    })

  module _ (q : n ≡ Cost) where
    pub ready_cost : Ready (kind_of (kind_number n) t) g p t → (read : List Bool) → length read ≡ 512 → Lowerable g p c read
    ready_cost x read l = let y = ready Cost q x in record { ready = record { well = y.well; is_prod = y.is_prod; long = y.held }; long = l }

    pub made_cost : (read : List Bool) (x late : Bool) (c' : List ℕ) (read' : List Bool) → Lowers g p c read x late c' read' → Visit (kind_of (kind_number n) t) g p t x (tables a e f r c' h)
    made_cost read x late c' read' w = let s = w.steps in visited Cost q x (tables a e f r c' h) (record {
      became = record { step = s.became; others = refl };
      told = λ k z. s.told k (ap (λ y. y.cost) z);
      still = λ k. ap (λ y. tables a e f r y h) (s.still k);
    })
