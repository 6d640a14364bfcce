-- First choices: going up a rule's productions, and rule by rule.
use mathlib.Core.Bool.{Bool, true, false, ◌&&◌}
use mathlib.Core.List.{List}
use mathlib.Core.Path.{◌≡◌, refl, sym, ap, ◌∙◌, subst}
use Prim.Native.Nat.{ℕ, ◌+◌, ◌-◌, ◌≤◌, ◌<◌, min}
use native.Mathlib.Decide.{dec_lt, ℕ_discrete}
use native.Mathlib.Omega.{arith}
use lib.Dec.{eqb, ltb}
use lib.ListN.{length, get_or, set, replicate, length-set, length-replicate}
use lib.Seq.{get_or-set_same, get_or-set_other}
use borrow.Author.Tests.{le-leb, lt-leb, ltb-true, ltb-false, le-ltb, eq-eqb, ne_eqb}
use Rattle.theory.specs.Below.{FirstBelow}
use Rattle.theory.specs.Levels.{suits}
use Rattle.theory.specs.Visits.{form_cost}
use Rattle.theory.proofs.Below.{first_none}
use Rattle.theory.proofs.Choices.{chosen_all}
use Rattle.theory.proofs.Cost.{sum_cut}
use Rattle.grammar.specs.Flat.{Flat, flat, at, ProdAt, form, denoted, price}
use Rattle.grammar.specs.Links.{Leads, Linked, Linkable}
use Rattle.grammar.proofs.Forms.{Placed, placed}
use Rattle.grammar.proofs.Linking.{linkable}
use Rattle.rows.proofs.Tables.{cleared_at}
use Rattle.engine.specs.Cost.{costs_of, sum_of, Pricing, CostReady}
use Rattle.engine.proofs.CostStepping.{cost_lists, pricing}
use Rattle.engine.proofs.Summing.{entry}
use Rattle.sentences.specs.Lent.{choices_of}
use Rattle.sentences.specs.Choosing.{FromReady, CheapestFrom, Choosable, FirstChoices}

-- a production suits no rule but its owner
pub unfit : (g : Flat) (cost : List ℕ) (r p : ℕ) → (at g.owners p ≡ r → ⊥) → suits (denoted g) (price g) (costs_of cost) r p ≡ false
unfit g cost r p d = rw (ne_eqb r (at g.owners p) (λ e. d (sym e)))

-- `cheapest_from`: q is one of r's productions or past the last, and those from p up to q do not cost what r does
pub record Rising (g : Flat) (cost : List ℕ) (r p q : ℕ) : Type 0 where
  pub low : p ≤ q
  pub owns : q < length g.owners → at g.owners q ≡ r
  pub passed : (k : ℕ) → p ≤ k → k < q → k < length g.owners → suits (denoted g) (price g) (costs_of cost) r k ≡ false

module _ (rules : ℕ) (owners starts symbols costs next cost : List ℕ) (r p : ℕ) (ok : FromReady (flat rules owners starts symbols costs) next cost r p) where
  abbrev g : Flat
  g = flat rules owners starts symbols costs

  pub rule_entry : r < length cost
  rule_entry = omega (arith, ok.is_rule, ok.cost_long)

  pub rising_start : Rising g cost r p p
  rising_start = record { low = omega arith; owns = ok.owns; passed = λ k a b. absurd (omega arith) }

  module _ (least : ℕ) (el : least ≡ at cost r) where
    held : costs_of cost r ≡ least
    held = entry cost r rule_entry ∙ sym el

    -- a rule that costs more than 65535 has no choice
    pub from_dear : 65535 < least → CheapestFrom g cost r p 4096
    from_dear h = record {
      most = omega arith;
      is_prod = λ l. absurd (omega arith);
      low = λ l. absurd (omega arith);
      costs = λ l. absurd (omega arith);
      first = λ q a b l. rw (held, lt-leb least 65535 h) (go (eqb r (at owners q)));
    }
      where
        go : (b : Bool) → (b && false) ≡ false
        go true = refl
        go false = refl

    module _ (cheap : least ≤ 65535) (q : ℕ) (x : Rising g cost r p q) where
      pub from_none : length owners ≤ q → CheapestFrom g cost r p 4096
      from_none h = record {
        most = omega arith;
        is_prod = λ l. absurd (omega arith);
        low = λ l. absurd (omega arith);
        costs = λ l. absurd (omega arith);
        first = λ k a b l. x.passed k a (omega arith) l;
      }

      module _ (l : q < length owners) where
        ready : CostReady g q cost
        ready = record { well = ok.well; is_prod = l; long = ok.cost_long }

        pub rising_lists : (q < length owners) × (q + 1 < length starts)
        rising_lists = cost_lists rules owners starts symbols costs q cost ready

        pub rising_place : q < 4096
        rising_place = omega (arith, ok.well.sizes.prods_high)

        module _ (o a e : ℕ) (h : ProdAt owners starts q o a e) where
          pub rising_pricing : Pricing symbols costs a e cost
          rising_pricing = pricing rules owners starts symbols costs q cost ready o a e h

          module _ (s : ℕ) (es : s ≡ sum_of costs cost (form symbols a e)) where
            at_prod : Placed g q o a e
            at_prod = placed g ok.well q l o a e h

            abbrev f : ℕ
            f = form_cost (at costs) (costs_of cost) ((denoted g).body q)

            cut : min s 65536 ≡ min f 65536
            unfolding sum_of
            cut = ap (λ z. min z 65536) es ∙ rw at_prod.body (sum_cut (at costs) (costs_of cost) (form symbols a e))

            fits : (b : Bool) → eqb f least ≡ b → suits (denoted g) (price g) (costs_of cost) r q ≡ b
            fits b k = rw (x.owns l, eq-eqb r r refl, held, le-leb least 65535 cheap) k

            -- it has the rule's cost
            pub from_found : s ≡ least → CheapestFrom g cost r p q
            from_found k = record {
              most = omega (arith, rising_place);
              is_prod = λ _. l;
              low = λ _. x.low;
              costs = λ _. fits true (eq-eqb f least (omega (arith, cut)));
              first = x.passed;
            }

            -- it has not, and the next one's turn comes
            module _ (d : s ≡ least → ⊥) (n : ℕ) (en : n ≡ at next q) where
              leads : Leads owners r (q + 1) n
              leads = rw en (subst (λ z. Leads owners z (q + 1) (at next q)) (x.owns l) (ok.nexts q l))

              pub rising_less : length owners - n < length owners - q
              rising_less = omega (arith, leads.low)

              pub rising_on : Rising g cost r p n
              rising_on = record {
                low = omega (arith, x.low, leads.low);
                owns = leads.owns;
                passed = λ k a b lk. elim (dec_lt k q) [
                  | yes below ↦ x.passed k a below lk
                  | no above ↦ elim (ℕ_discrete k q) [
                    | yes same ↦ subst (λ z. suits (denoted g) (price g) (costs_of cost) r z ≡ false) (sym same) (fits false (ne_eqb f least (λ z. d (let y : s ≡ least = omega (arith, cut) in y))))
                    | no other ↦ unfit g cost r k (leads.least k (omega arith) b lk)
                  ]
                ];
              }

-- `choices`: the rules below r have their first choices, the others none
pub record Choosing (g : Flat) (cost : List ℕ) (r : ℕ) (choice : List ℕ) : Type 0 where
  pub below : r ≤ g.rules
  pub room : length choice ≡ 512
  pub done : (q : ℕ) → q < r → FirstBelow (suits (denoted g) (price g) (costs_of cost) q) (length g.owners) (ltb (get_or choice q 4096) 4096) (get_or choice q 4096)
  pub left : (q : ℕ) → r ≤ q → get_or choice q 4096 ≡ 4096

module _ (g : Flat) (cost choice₀ : List ℕ) (ok : Choosable g cost choice₀) where
  pub choice_links : Linkable g.owners (replicate 512 4096) (replicate 4096 4096)
  choice_links = linkable g.owners ok.well.sizes.prods_high (λ p l. omega (arith, ok.well.owner p l, ok.well.sizes.rules_high))

  pub choosing_start : Choosing g cost 0 choice₀
  choosing_start = record {
    below = omega arith;
    room = ap length ok.none ∙ length-replicate {A = ℕ} 512 4096;
    done = λ q l. absurd (omega arith);
    left = λ q l. ap (λ z. get_or z q 4096) ok.none ∙ cleared_at 512 4096 q;
  }

  module _ (head next : List ℕ) (links : Linked 512 4096 g.owners head next 0) (r : ℕ) (choice : List ℕ) (c : Choosing g cost r choice) where
    pub choosing_end : g.rules ≤ r → FirstChoices g cost choice
    unfolding choices_of
    choosing_end l = record { room = c.room; chosen = chosen_all (denoted g) (price g) (costs_of cost) (choices_of choice) all }
      where
        all : (q : ℕ) → FirstBelow (suits (denoted g) (price g) (costs_of cost) q) (length g.owners) (ltb (get_or choice q 4096) 4096) (get_or choice q 4096)
        all q = elim (dec_lt q r) [
          | yes k ↦ c.done q k
          | no k ↦ subst (λ b. FirstBelow (suits (denoted g) (price g) (costs_of cost) q) (length g.owners) b (get_or choice q 4096)) (sym (le-ltb (get_or choice q 4096) 4096 (omega (arith, c.left q (omega arith)))))
              (first_none _ _ _ (λ p lp. unfit g cost q p (λ e. omega (arith, ok.well.owner p lp))))
        ]

    module _ (l : r < g.rules) where
      pub choice_place : r < 512
      choice_place = omega (arith, ok.well.sizes.rules_high)

      module _ (p : ℕ) (ep : p ≡ at head r) where
        lowest : Leads g.owners r 0 p
        lowest = rw ep (links.heads r choice_place)

        pub choosing_ready : FromReady g next cost r p
        choosing_ready = record {
          well = ok.well;
          cost_long = ok.long;
          next_long = links.next_long;
          nexts = λ q lq. links.nexts q (omega arith) lq;
          is_rule = l;
          owns = lowest.owns;
        }

        module _ (x : ℕ) (f : CheapestFrom g cost r p x) where
          -- productions before the rule's first are other rules'
          before : (q : ℕ) → q < x → q < length g.owners → suits (denoted g) (price g) (costs_of cost) r q ≡ false
          before q lq lp = elim (dec_lt q p) [
            | yes k ↦ unfit g cost r q (lowest.least q (omega arith) k lp)
            | no k ↦ f.first q (omega arith) lq lp
          ]

          chosen : FirstBelow (suits (denoted g) (price g) (costs_of cost) r) (length g.owners) (ltb x 4096) x
          chosen = record {
            below = λ t. f.is_prod (ltb-true x 4096 t);
            passes = λ t. f.costs (ltb-true x 4096 t);
            first = λ t i li. before i li (omega (arith, f.is_prod (ltb-true x 4096 t)));
            none = λ t i li. before i (omega (arith, ltb-false x 4096 t, ok.well.sizes.prods_high)) li;
          }

          pub choosing_on : Choosing g cost (r + 1) (set choice r x)
          choosing_on = record {
            below = omega arith;
            room = length-set choice r x ∙ c.room;
            done = λ q lq. elim (ℕ_discrete q r) [
              | yes e ↦ rw (e, get_or-set_same choice r x 4096 (omega (arith, choice_place, c.room))) chosen
              | no d ↦ rw (get_or-set_other choice r q x 4096 d) (c.done q (omega arith))
            ];
            left = λ q lq. get_or-set_other choice r q x 4096 (omega arith) ∙ c.left q (omega arith);
          }
