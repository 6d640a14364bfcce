-- Number k of a rule: its cheapest productions in turn, each with its places turned, until one has it.
use mathlib.Core.Bool.{true}
use mathlib.Core.List.{List, [], ◌∷◌, ◌++◌}
use mathlib.Core.Path.{◌≡◌, refl, sym, ap, ap₂, ◌∙◌, subst}
use Prim.Native.Nat.{ℕ, zero, suc, ◌+◌, ◌-◌, ◌≤◌, ◌<◌, min}
use native.Mathlib.Decide.{dec_lt}
use native.Mathlib.Omega.{arith}
use lib.ListN.{length, get_or, take, replicate, length-replicate, take-append-drop}
use lib.Seq.{get_or-take}
use Rattle.theory.specs.Cheapest.{Cheapest}
use Rattle.theory.specs.Cheapest as Cheap
use Rattle.theory.specs.Listing.{below}
use Rattle.theory.specs.Counts.{form_ways}
use Rattle.theory.specs.Odometer.{product, Fits, zeros, turns, places}
use Rattle.theory.proofs.Depth.{deep_priced, deep_leads, deep_enough, listing_same}
use Rattle.theory.proofs.Listing.{suits_cheapest}
use Rattle.theory.proofs.Counts.{listing_some}
use Rattle.theory.proofs.Odometer.{places_few, places_fit, places_low}
use Rattle.theory.proofs.Numbers.{choice_cheapest, choice_lowest, below_skip, below_adds, counted_is, parts_exact, counted_ways}
use Rattle.grammar.specs.Flat.{Flat, at, form, denoted, price}
use Rattle.grammar.proofs.Denoted.{proper}
use Rattle.grammar.proofs.Forms.{prod_in, Placed, placed}
use Rattle.engine.specs.Cost.{costs_of}
use Rattle.sentences.specs.Choosing.{FromReady, CheapestFrom}
use Rattle.std.specs.Prelude.{Option, None, Some}
use Rattle.listings.specs.Calls.{counts_of}
use Rattle.listings.specs.Counting.{deep_by}
use Rattle.listings.specs.Numbers.{PlacesReady, Places, Numbered, Finds, lists_by}
use Rattle.odometer.specs.Turning.{Turnable, Turns}
use Rattle.listings.proofs.Counting.{choice_low, choice_is, next_from, next_above, next_between, next_less}

-- places that are all at 0
zeros_front : (m n : ℕ) (bs : List ℕ) → length bs ≡ m → m ≤ n → take m (replicate n 0) ≡ zeros bs
zeros_front zero n [] e le = refl
zeros_front zero n (b ∷ bs) e le = absurd (omega arith)
zeros_front (suc m) n [] e le = absurd (omega arith)
zeros_front (suc m) zero (b ∷ bs) e le = absurd (omega arith)
zeros_front (suc m) (suc n) (b ∷ bs) e le = ap (λ z. 0 ∷ z) (zeros_front m n bs (omega arith) (omega arith))

-- p is a cheapest production, and number k is number `left` from its first on
pub record Finding (g : Flat) (cost : List ℕ) (levels r k p left : ℕ) (todo : List ℕ) : Type 0 where
  pub cheapest : Cheapest (denoted g) (price g) (costs_of cost) r p
  pub number : k ≡ length (below (denoted g) (price g) (costs_of cost) (lists_by g cost levels) r p) + left
  pub begun : todo ≡ replicate 16 0

-- the rules inside number k's rule: within one level less, their counts those of their lists
module _ (g : Flat) (next cost choice counts : List ℕ) (levels r k : ℕ) (ok : Numbered g next cost choice counts (levels + 1) r k) where
  pub deep_here : deep_by g cost (suc levels) r ≡ true
  deep_here = subst (λ (z : ℕ). deep_by g cost z r ≡ true) {x = levels + 1} {y = suc levels} (omega arith) ok.within

  inside : (q : ℕ) → Cheap.Leads (denoted g) (price g) (costs_of cost) r q → deep_by g cost levels q ≡ true
  inside q u = deep_leads (denoted g) (price g) (costs_of cost) levels r q deep_here u

  pub inside_exact : (q : ℕ) → Cheap.Leads (denoted g) (price g) (costs_of cost) r q → (counts_of counts q ≡ length (lists_by g cost levels q)) × (counts_of counts q ≤ 65535)
  inside_exact q u =
      let d = inside q u in
      let e = parts_exact (denoted g) (price g) (costs_of cost) (proper g ok.ground.well) ok.ground.prices.exact (counts_of counts) ok.counts_defined.exact r ok.few q u in (
        e.0 ∙ ap length (listing_same (denoted g) (price g) (costs_of cost) g.rules levels q (deep_enough (denoted g) (price g) (costs_of cost) (proper g ok.ground.well) ok.ground.prices.exact levels q d) d),
        omega (arith, e.1, ok.few),
      )

  inside_some : (q : ℕ) → Cheap.Leads (denoted g) (price g) (costs_of cost) r q → 0 < counts_of counts q
  inside_some q u = omega (arith, (inside_exact q u).0, listing_some (denoted g) (price g) (costs_of cost) (proper g ok.ground.well) ok.ground.prices.exact levels q (inside q u))

  whole : counts_of counts r ≡ length (below (denoted g) (price g) (costs_of cost) (lists_by g cost levels) r (length g.owners))
  whole =
      counted_is (denoted g) (price g) (costs_of cost) (proper g ok.ground.well) ok.ground.prices.exact (counts_of counts) ok.counts_defined.exact r ok.few
      ∙ ap length (listing_same (denoted g) (price g) (costs_of cost) g.rules (suc levels) r (deep_enough (denoted g) (price g) (costs_of cost) (proper g ok.ground.well) ok.ground.prices.exact (suc levels) r deep_here) deep_here)

  pub ways_few : (p : ℕ) → Cheapest (denoted g) (price g) (costs_of cost) r p → form_ways (counts_of counts) ((denoted g).body p) ≤ 65535
  ways_few p h = omega (arith, counted_ways (denoted g) (price g) (costs_of cost) (proper g ok.ground.well) ok.ground.prices.exact (counts_of counts) ok.counts_defined.exact r ok.few p h, ok.few)

  pub find_place : r < 512
  find_place = omega (arith, ok.is_rule, ok.ground.well.sizes.rules_high)

  pub find_start : (todo : List ℕ) → todo ≡ replicate 16 0 → (p : ℕ) → p ≡ at choice r → Finding g cost levels r k p k todo
  find_start todo b p ep =
      let low = choice_low g next cost choice ok.ground r ok.is_rule p ep (deep_priced (denoted g) (price g) (costs_of cost) (suc levels) r deep_here) in
      let d = choice_is g next cost choice ok.ground r ok.is_rule p ep low in
      record {
        cheapest = choice_cheapest (denoted g) (price g) (costs_of cost) d;
        number = omega (arith, below_skip (denoted g) (price g) (costs_of cost) (lists_by g cost levels) r 0 p (omega arith) (λ q a b. choice_lowest (denoted g) (price g) (costs_of cost) d q b));
        begun = b;
      }

  module _ (p left : ℕ) (todo : List ℕ) (x : Finding g cost levels r k p left todo) where
    is_prod_law : p < length g.owners
    is_prod_law = x.cheapest.is_prod

    pub find_start_at : p < length g.starts
    find_start_at = omega (arith, (prod_in g ok.ground.well p is_prod_law).1)

    pub find_next_at : p + 1 < length g.starts
    find_next_at = (prod_in g ok.ground.well p is_prod_law).1

    pub find_link : p < 4096
    find_link = omega (arith, is_prod_law, ok.ground.well.sizes.prods_high)

    module _ (a e : ℕ) (ea : a ≡ at g.starts p) (ee : e ≡ at g.starts (p + 1)) where
      at_prod : Placed g p (at g.owners p) a e
      at_prod = placed g ok.ground.well p is_prod_law (at g.owners p) a e (record { owner = refl; from = ea; to = ee })

      places_same : places (counts_of counts) ((denoted g).body p) ≡ places (counts_of counts) (form g.symbols a e)
      places_same = ap (places (counts_of counts)) at_prod.body

      pub find_places : PlacesReady g.symbols a e counts (replicate 16 1)
      find_places = record {
        rise = at_prod.rise;
        inside = at_prod.fits;
        symbol = λ i l. record { rule = λ h. omega (arith, (ok.ground.well.symbols i l).rule h, ok.counts_defined.long) };
        few = omega (arith, ap length places_same, places_few (counts_of counts) ((denoted g).body p) (λ q m. inside_some q (record { prod = p; cheapest = x.cheapest; holds = m })) (ways_few p x.cheapest));
        room = length-replicate {A = ℕ} 16 1;
      }

      module _ (m : ℕ) (bases : List ℕ) (h : Places g.symbols a e counts m bases) where
        is : take m bases ≡ places (counts_of counts) ((denoted g).body p)
        is = h.is ∙ sym places_same

        most : m ≤ 16
        most = omega (arith, h.many, find_places.few)

        pub find_turnable : Turnable bases m todo
        find_turnable = record {
          few = most;
          bases_long = h.room;
          todo_long = ap length x.begun ∙ length-replicate {A = ℕ} 16 0;
          low = λ j l. omega (
            arith,
            get_or-take m bases j 0 l,
            ap (λ z. get_or z j 0) is,
            places_low (counts_of counts) 65535 ((denoted g).body p) (λ q u. (inside_exact q (record { prod = p; cheapest = x.cheapest; holds = u })).1) j (omega (arith, h.many, ap length places_same)),
          );
          some = subst (λ z. Fits z (zeros z)) (sym is) (places_fit (counts_of counts) ((denoted g).body p) (λ q u. inside_some q (record { prod = p; cheapest = x.cheapest; holds = u })));
          begun = ap (take m) x.begun ∙ zeros_front m 16 (take m bases) (ap length h.is ∙ sym h.many) most;
        }

        module _ (to : List ℕ) where
          -- it is shown
          pub find_found : (said : Option ℕ) → Turns bases m left todo said to → said ≡ None → Finds g cost counts levels r k p to
          find_found said made told =
              let t : Turns bases m left todo None to = subst (λ z. Turns bases m left todo z to) told made in
              let same : take m to ≡ take (length (places (counts_of counts) ((denoted g).body p))) to = ap (λ (z : ℕ). take z to) (h.many ∙ ap length (sym places_same)) in
              record {
                room = t.room;
                found = record {
                  cheapest = x.cheapest;
                  fits = subst (λ z. Fits (places (counts_of counts) ((denoted g).body p)) z) same (subst (λ z. Fits z (take m to)) is t.shows.0);
                  number = x.number ∙ ap (λ (z : ℕ). length (below (denoted g) (price g) (costs_of cost) (lists_by g cost levels) r p) + z) (sym t.shows.1 ∙ ap₂ turns is same);
                };
              }

          -- it is past this production
          module _ (said : Option ℕ) (made : Turns bases m left todo said to) (rest : ℕ) (told : said ≡ Some rest) (after : ℕ) (en : after ≡ at next p) where
            t : Turns bases m left todo (Some rest) to
            t = subst (λ z. Turns bases m left todo z to) told made

            again : to ≡ replicate 16 0
            again =
                sym (take-append-drop m to)
                ∙ ap₂ ◌++◌ (t.shows.1 ∙ sym find_turnable.begun) t.rest
                ∙ take-append-drop m todo
                ∙ x.begun

            past : k ≡ length (below (denoted g) (price g) (costs_of cost) (lists_by g cost levels) r (suc p)) + rest
            past = omega (
              arith,
              x.number,
              t.shows.0,
              ap product is,
              below_adds (denoted g) (price g) (costs_of cost) (lists_by g cost levels) (counts_of counts) r p x.cheapest (λ q u. (inside_exact q u).0),
            )

            pub find_from : FromReady g next cost r after
            find_from = next_from g next cost choice ok.ground r ok.is_rule p x.cheapest after en

            module _ (q : ℕ) (f : CheapestFrom g cost r after q) where
              above : p + 1 ≤ min q (length g.owners)
              above = next_above g next cost choice ok.ground r ok.is_rule p x.cheapest after en q f

              skipped : length (below (denoted g) (price g) (costs_of cost) (lists_by g cost levels) r (min q (length g.owners))) ≡ length (below (denoted g) (price g) (costs_of cost) (lists_by g cost levels) r (suc p))
              skipped = below_skip (denoted g) (price g) (costs_of cost) (lists_by g cost levels) r (suc p) (min q (length g.owners)) (omega (arith, above)) (λ j u v. next_between g next cost choice ok.ground r ok.is_rule p x.cheapest after en q f j (omega arith) v)

              -- there is a next one, since the productions up to the last hold more than k
              is_low : q < 4096
              is_low = elim (dec_lt q 4096) [
                | yes l ↦ l
                | no l ↦
                    let m : min q (length g.owners) ≡ length g.owners = omega (arith, ok.ground.well.sizes.prods_high) in
                    absurd (omega (arith, past, skipped, ap (λ (z : ℕ). length (below (denoted g) (price g) (costs_of cost) (lists_by g cost levels) r z)) m, whole, ok.below))
              ]

              pub find_less : length g.owners - q < length g.owners - p
              find_less = next_less g next cost choice ok.ground r ok.is_rule p x.cheapest after en q f

              pub find_on : Finding g cost levels r k q rest to
              find_on =
                  let l = f.is_prod is_low in
                  let m : min q (length g.owners) ≡ q = omega arith in
                  record {
                    cheapest = suits_cheapest (denoted g) (price g) (costs_of cost) r q l (f.costs is_low);
                    number = omega (arith, past, skipped, ap (λ (z : ℕ). length (below (denoted g) (price g) (costs_of cost) (lists_by g cost levels) r z)) m);
                    begun = again;
                  }
