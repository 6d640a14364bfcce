-- Counting by recursion over the depth, symbol by symbol and production by production: what is counted so far, and what is left.
use mathlib.Core.Bool.{Bool, true, false, ◌&&◌, ◌||◌, cond}
use mathlib.Core.List.{List, ◌∷◌}
use mathlib.Core.Logic.{◌⊎◌, inl, inr}
use mathlib.Core.Path.{◌≡◌, refl, sym, ap, ◌∙◌, subst, subst₂, fun_ext}
use Prim.Native.Nat.{ℕ, suc, ◌+◌, ◌*◌, ◌-◌, ◌≤◌, ◌<◌, min}
use native.Mathlib.Decide.{dec_le, dec_lt, ℕ_discrete}
use native.Mathlib.Nat.{add-zero, one-mul, mul-one}
use native.Mathlib.Omega.{arith}
use lib.Dec.{leb}
use lib.ListN.{length, get_or, set, replicate, length-set, length-replicate}
use lib.Seq.{get_or-set_same, get_or-set_other}
use borrow.Author.Tests.{le-leb, leb-true, leb-false, ltb-true, lt-ltb}
use Rattle.theory.specs.Grammar.{rul}
use Rattle.theory.specs.Levels.{suits}
use Rattle.theory.specs.Visits.{all_marked}
use Rattle.theory.specs.Sentences.{Choice}
use Rattle.theory.specs.Cheapest.{Cheapest}
use Rattle.theory.specs.Listing.{all_below}
use Rattle.theory.specs.Counts.{Count, form_ways, rule_ways, count_cleared}
use Rattle.theory.specs.Counting.{Counting, Keeps}
use Rattle.theory.proofs.Bools.{and_join, or_split, or_none}
use Rattle.theory.proofs.Choices.{priced_choice}
use Rattle.theory.proofs.Listing.{suits_cheapest, cheapest_suits}
use Rattle.theory.proofs.Depth.{priced_below}
use Rattle.theory.proofs.Numbers.{choice_cheapest, choice_lowest}
use Rattle.theory.proofs.Counts.{cut_on}
use Rattle.theory.proofs.Counting.{shallow_dear, shallow_at, ways_skip, counting_start, counting_rule, counting_known, counting_write, counting_fail, counting_exact}
use Rattle.grammar.specs.Flat.{Flat, at, form, denoted, price}
use Rattle.grammar.specs.Links.{Leads}
use Rattle.grammar.proofs.Denoted.{proper}
use Rattle.grammar.proofs.Forms.{prod_in, Placed, placed}
use Rattle.rows.proofs.Tables.{cleared_at}
use Rattle.engine.specs.Cost.{costs_of}
use Rattle.engine.proofs.Spans.{span, span_done, span_in, span_is, span_token, span_rule}
use Rattle.engine.proofs.Summing.{default_same}
use Rattle.sentences.specs.Choosing.{FromReady, CheapestFrom}
use Rattle.sentences.specs.Lent.{choices_of}
use Rattle.sentences.proofs.Choosing.{unfit}
use Rattle.listings.specs.Calls.{counts_of, CountsDefined}
use Rattle.listings.specs.Counting.{deep_by, many_by, Ground, levels_of, CountBegun, CountOn, RuleCountable, RuleCounts, ProductionCountable, ProductionCounts, CountFillable}

-- a product of counts, cut
pub times_short : (n x : ℕ) → n * x ≤ 65535 → n * x ≡ min (n * x) 65536
times_short n x l = omega arith

pub times_long : (n x : ℕ) → 65535 < n * x → 65536 ≡ min (n * x) 65536
times_long n x l = omega arith

-- inside the lists an entry is the number that stands there
pub count_entry : (ws : List ℕ) (r : ℕ) → r < length ws → counts_of ws r ≡ at ws r
unfolding counts_of
count_entry ws r l = default_same ws r 65537 0 l

count_set : (ws : List ℕ) (r x : ℕ) → r < length ws → counts_of (set ws r x) r ≡ x
unfolding counts_of
count_set ws r x l = get_or-set_same ws r x 65537 l

count_other : (ws : List ℕ) (r x q : ℕ) → (q ≡ r → ⊥) → counts_of (set ws r x) q ≡ counts_of ws q
unfolding counts_of
count_other ws r x q d = get_or-set_other ws r q x 65537 d

level_set : (ws : List ℕ) (r x : ℕ) → r < length ws → levels_of (set ws r x) r ≡ x
unfolding levels_of
level_set ws r x l = get_or-set_same ws r x 0 l

level_other : (ws : List ℕ) (r x q : ℕ) → (q ≡ r → ⊥) → levels_of (set ws r x) q ≡ levels_of ws q
unfolding levels_of
level_other ws r x q d = get_or-set_other ws r q x 0 d

level_entry : (ws : List ℕ) (r : ℕ) → levels_of ws r ≡ at ws r
unfolding levels_of
level_entry ws r = refl

-- what is known stays so
keeps_then : (a b c : List ℕ) → Keeps (counts_of a) (counts_of b) → Keeps (counts_of b) (counts_of c) → Keeps (counts_of a) (counts_of c)
keeps_then a b c u v r l = v r (omega (arith, u r l)) ∙ u r l

-- what a rule's entry of the first choices says
module _ (g : Flat) (next cost choice : List ℕ) (gr : Ground g next cost choice) (r : ℕ) (is_rule : r < g.rules) (p : ℕ) (ep : p ≡ at choice r) where
  pub choice_place : r < 512
  choice_place = omega (arith, is_rule, gr.well.sizes.rules_high)

  choice_entry : get_or choice r 4096 ≡ p
  choice_entry = default_same choice r 4096 0 (omega (arith, choice_place, gr.picks.room)) ∙ sym ep

  -- a rule with a cost has one
  pub choice_low : costs_of cost r ≤ 65535 → p < 4096
  unfolding choices_of
  choice_low le =
      let d = priced_choice (denoted g) (price g) (costs_of cost) (proper g gr.well) gr.prices.exact r le in
      omega (arith, ltb-true (get_or choice r 4096) 4096 (gr.picks.chosen.all r d.0 d.1), choice_entry)

  pub choice_is : p < 4096 → Choice (denoted g) (price g) (costs_of cost) r p
  unfolding choices_of
  choice_is l = subst (λ z. Choice (denoted g) (price g) (costs_of cost) r z) choice_entry (gr.picks.chosen.is r (lt-ltb (get_or choice r 4096) 4096 (omega (arith, choice_entry))))

-- the next cheapest production of a rule, from one of its productions
module _ (g : Flat) (next cost choice : List ℕ) (gr : Ground g next cost choice) (r : ℕ) (is_rule : r < g.rules) (q : ℕ) (c : Cheapest (denoted g) (price g) (costs_of cost) r q) (after : ℕ) (ea : after ≡ at next q) where
  leads : Leads g.owners r (q + 1) after
  leads = rw ea (subst (λ z. Leads g.owners z (q + 1) (at next q)) c.owns (gr.links.nexts q c.is_prod))

  pub next_from : FromReady g next cost r after
  next_from = record {
    well = gr.well;
    cost_long = gr.prices.long;
    next_long = gr.links.long;
    nexts = gr.links.nexts;
    is_rule = is_rule;
    owns = leads.owns;
  }

  module _ (to : ℕ) (f : CheapestFrom g cost r after to) where
    pub next_above : q + 1 ≤ min to (length g.owners)
    next_above = elim (dec_lt to 4096) [ yes m ↦ omega (arith, f.low m, leads.low, c.is_prod) | no m ↦ omega (arith, c.is_prod, gr.well.sizes.prods_high) ]

    pub next_between : (j : ℕ) → q + 1 ≤ j → j < min to (length g.owners) → suits (denoted g) (price g) (costs_of cost) r j ≡ false
    next_between j u v = elim (dec_lt j after) [
      | yes m ↦ unfit g cost r j (leads.least j u m (omega arith))
      | no m ↦ f.first j (omega arith) (omega arith) (omega arith)
    ]

    pub next_less : length g.owners - to < length g.owners - q
    next_less = omega (arith, next_above, c.is_prod)

-- a production: the first i symbols from a on are counted
pub record Producing (g : Flat) (cost : List ℕ) (levels a e : ℕ) (old : List ℕ) (i n : ℕ) (counts shallow : List ℕ) : Type 0 where
  pub high : a + i ≤ e
  pub cap : n ≤ 65536
  pub on : CountOn g cost old counts shallow
  pub within : all_marked (deep_by g cost g.rules) (form g.symbols a e) ≡ all_marked (deep_by g cost g.rules) (form g.symbols (a + i) e)
  pub ways : min (form_ways (many_by g cost) (form g.symbols a e)) 65536 ≡ min (n * form_ways (many_by g cost) (form g.symbols (a + i) e)) 65536
  pub fails : all_marked (deep_by g cost levels) (form g.symbols (a + i) e) ≡ false → all_marked (deep_by g cost levels) (form g.symbols a e) ≡ false

module _ (g : Flat) (next cost choice : List ℕ) (levels a e : ℕ) (old olds : List ℕ) (ok : ProductionCountable g next cost choice levels a e old olds) where
  pub producing_start : Producing g cost levels a e old 0 1 old olds
  producing_start = record {
    high = omega (arith, ok.rise);
    cap = omega arith;
    on = record { begun = ok.begun; keeps = λ r l. refl };
    within = rw (add-zero a);
    ways = rw (add-zero a) (ap (λ (z : ℕ). min z 65536) (sym (one-mul (form_ways (many_by g cost) (form g.symbols a e)))));
    fails = λ z. rw (add-zero a) at z;
  }

  module _ (i n : ℕ) (counts shallow : List ℕ) (x : Producing g cost levels a e old i n counts shallow) where
    pub producing_long : length counts ≡ length old
    producing_long = x.on.begun.long ∙ sym ok.begun.long

    pub producing_end : length (span g.symbols a e) ≤ i → ProductionCounts g cost levels a e old n counts shallow
    producing_end l =
        let d = span_done g.symbols a e ok.inside i x.high l in
        record {
          on = x.on;
          within = λ _. x.within ∙ rw d refl;
          known = λ _. let f : form_ways (many_by g cost) (form g.symbols (a + i) e) ≡ 1 = rw d refl in omega (arith, x.ways, x.cap, ap (λ (z : ℕ). n * z) f, mul-one n);
          none = λ z. absurd (omega (arith, x.cap));
        }

    module _ (l : i < length (span g.symbols a e)) (s : ℕ) (es : s ≡ at (span g.symbols a e) i) where
      below : a + i < e
      below = span_in g.symbols a e ok.inside i l

      pub producing_symbol : a + i < length g.symbols
      producing_symbol = omega (arith, ok.inside, below)

      pub producing_token : s < 32768 → Producing g cost levels a e old (i + 1) n counts shallow
      producing_token low =
          let f = span_token g.symbols a e ok.inside i l s es low in
          record {
            high = omega (arith, below);
            cap = x.cap;
            on = x.on;
            within = x.within ∙ rw f refl;
            ways = x.ways ∙ rw f refl;
            fails = λ z. x.fails (rw f z);
          }

      module _ (high : 32768 ≤ s) (r : ℕ) (er : r ≡ s - 32768) where
        opens : form g.symbols (a + i) e ≡ rul r ∷ form g.symbols (a + (i + 1)) e
        opens = rw er (span_rule g.symbols a e ok.inside i l s es high)

        pub producing_rule : RuleCountable g next cost choice levels r counts shallow
        producing_rule = record {
          ground = ok.ground;
          most = ok.most;
          is_rule = omega (arith, span_is g.symbols a e ok.inside i l s es, (ok.ground.well.symbols (a + i) producing_symbol).rule (omega (arith, span_is g.symbols a e ok.inside i l s es)));
          begun = x.on.begun;
        }

        module _ (y : ℕ) (counts' shallow' : List ℕ) (h : RuleCounts g cost levels r counts y counts' shallow') where
          on : CountOn g cost old counts' shallow'
          on = record { begun = h.on.begun; keeps = keeps_then old counts counts' x.on.keeps h.on.keeps }

          pub producing_long_on : length counts' ≡ length old
          producing_long_on = on.begun.long ∙ sym ok.begun.long

          pub producing_fails : 65536 < y → ProductionCounts g cost levels a e old 65537 counts' shallow'
          producing_fails k = record {
            on = on;
            within = λ z. absurd (omega arith);
            known = λ z. absurd (omega arith);
            none = λ _. x.fails (rw opens (rw (h.none k) refl));
          }

          module _ (k : y ≤ 65536) where
            pub producing_caps : (n ≤ 65536) × (y ≤ 65536)
            producing_caps = (x.cap, k)

            is : (deep_by g cost g.rules r ≡ true) × (y ≡ min (many_by g cost r) 65536)
            is =
                let t = counting_known (denoted g) (price g) (costs_of cost) (proper g ok.ground.well) ok.ground.prices.exact on.begun.held r (omega (arith, h.known k)) in
                (t.0, sym (h.known k) ∙ t.1)

            pub producing_on : (to : ℕ) → to ≡ min (n * y) 65536 → Producing g cost levels a e old (i + 1) to counts' shallow'
            producing_on to q = record {
              high = omega (arith, below);
              cap = omega arith;
              on = on;
              within = x.within ∙ rw opens (rw is.0 refl);
              ways =
                  x.ways
                  ∙ ap (λ z. min (n * form_ways (many_by g cost) z) 65536) opens
                  ∙ cut_on n y (many_by g cost r) (form_ways (many_by g cost) (form g.symbols (a + (i + 1)) e)) is.1
                  ∙ ap (λ (z : ℕ). min (z * form_ways (many_by g cost) (form g.symbols (a + (i + 1)) e)) 65536) (sym q);
              fails = λ z. x.fails (rw opens (fails_tail (deep_by g cost levels r) z));
            }
              where
                fails_tail : (b : Bool) → all_marked (deep_by g cost levels) (form g.symbols (a + (i + 1)) e) ≡ false → (b && all_marked (deep_by g cost levels) (form g.symbols (a + (i + 1)) e)) ≡ false
                fails_tail true z = z
                fails_tail false z = refl

-- a rule: its cheapest productions below p are counted
pub record Ruling (g : Flat) (cost : List ℕ) (r : ℕ) (old : List ℕ) (p total : ℕ) (counts shallow : List ℕ) : Type 0 where
  pub on : CountOn g cost old counts shallow
  pub cap : total ≤ 65536
  pub most : p ≤ 4096
  pub suit : p < length g.owners → suits (denoted g) (price g) (costs_of cost) r p ≡ true
  pub straight : all_below (denoted g) (price g) (costs_of cost) (deep_by g cost g.rules) r (min p (length g.owners)) ≡ true
  pub ways : total ≡ min (rule_ways (denoted g) (price g) (costs_of cost) (many_by g cost) r (min p (length g.owners))) 65536

module _ (g : Flat) (next cost choice : List ℕ) (levels r : ℕ) (old olds : List ℕ) (ok : RuleCountable g next cost choice levels r old olds) where
  stays : CountOn g cost old old olds
  stays = record { begun = ok.begun; keeps = λ q l. refl }

  pub rule_entry : r < length old
  rule_entry = omega (arith, ok.is_rule, ok.begun.long)

  pub rule_place : r < 512
  rule_place = omega (arith, ok.is_rule, ok.ground.well.sizes.rules_high)

  -- it is known already
  pub rule_known : (n : ℕ) → n ≡ at old r → n ≤ 65536 → RuleCounts g cost levels r old n old olds
  rule_known n en k = record { on = stays; known = λ _. count_entry old r rule_entry ∙ sym en; none = λ z. absurd (omega arith) }

  module _ (n : ℕ) (en : n ≡ at old r) (unknown : 65536 < n) (p : ℕ) (ep : p ≡ at choice r) (s : ℕ) (es : s ≡ at olds r) where
    -- it has no cost, or these levels are known to be too few
    pub rule_none : (leb 4096 p || leb levels s) ≡ true → RuleCounts g cost levels r old 65537 old olds
    rule_none f = record { on = stays; known = λ z. absurd (omega arith); none = λ _. elim (or_split (leb 4096 p) (leb levels s) f) [ inl u ↦ dear (leb-true 4096 p u) | inr u ↦ ok.begun.held.shallow r levels (omega (arith, leb-true levels s u, level_entry olds r, es)) ] }
      where
        dear : 4096 ≤ p → deep_by g cost levels r ≡ false
        dear l = shallow_dear (denoted g) (price g) (costs_of cost) levels r (elim (dec_le (costs_of cost r) 65535) [ yes le ↦ absurd (omega (arith, choice_low g next cost choice ok.ground r ok.is_rule p ep le)) | no m ↦ omega arith ])

    module _ (f : (leb 4096 p || leb levels s) ≡ false) where
      is_prod_law : p < 4096
      is_prod_law = leb-false 4096 p (or_none (leb 4096 p) (leb levels s) f).0

      pub rule_level : 1 ≤ levels
      rule_level = omega (arith, leb-false levels s (or_none (leb 4096 p) (leb levels s) f).1)

      choice_of : Choice (denoted g) (price g) (costs_of cost) r p
      choice_of = choice_is g next cost choice ok.ground r ok.is_rule p ep is_prod_law

      pub ruling_start : Ruling g cost r old p 0 old olds
      ruling_start =
          let l : p < length g.owners = choice_of.is_prod in
          let k = ways_skip (denoted g) (price g) (costs_of cost) (many_by g cost) (deep_by g cost g.rules) r 0 p (omega arith) (λ q a b. choice_lowest (denoted g) (price g) (costs_of cost) choice_of q b) in
          let m : min p (length g.owners) ≡ p = omega arith in
          record {
            on = stays;
            cap = omega arith;
            most = omega (arith, is_prod_law);
            suit = λ _. cheapest_suits (denoted g) (price g) (costs_of cost) (choice_cheapest (denoted g) (price g) (costs_of cost) choice_of);
            straight = ap (λ (z : ℕ). all_below (denoted g) (price g) (costs_of cost) (deep_by g cost g.rules) r z) m ∙ k.1;
            ways = omega (arith, ap (λ (z : ℕ). rule_ways (denoted g) (price g) (costs_of cost) (many_by g cost) r z) m, k.0);
          }

      module _ (q total : ℕ) (counts shallow : List ℕ) (x : Ruling g cost r old q total counts shallow) where
        pub ruling_long : length counts ≡ length old
        ruling_long = x.on.begun.long ∙ sym ok.begun.long

        pub ruling_entry : r < length counts
        ruling_entry = omega (arith, rule_entry, ruling_long)

        pub ruling_long_set : length (set counts r total) ≡ length old
        ruling_long_set = length-set counts r total ∙ ruling_long

        -- all are counted
        pub ruling_end : length g.owners ≤ q → RuleCounts g cost levels r old total (set counts r total) shallow
        ruling_end l =
            let m : min q (length g.owners) ≡ length g.owners = omega arith in
            let d : deep_by g cost (suc g.rules) r ≡ true = and_join (le-leb (costs_of cost r) 65535 choice_of.priced) (sym (ap (λ (z : ℕ). all_below (denoted g) (price g) (costs_of cost) (deep_by g cost g.rules) r z) m) ∙ x.straight) in
            let k : Count (denoted g) (price g) (costs_of cost) r total = subst (λ z. Count (denoted g) (price g) (costs_of cost) r z) (sym (x.ways ∙ ap (λ (z : ℕ). min (rule_ways (denoted g) (price g) (costs_of cost) (many_by g cost) r z) 65536) m))
            (counting_rule (denoted g) (price g) (costs_of cost) (proper g ok.ground.well) ok.ground.prices.exact g.rules r d) in
            record {
              on = record {
                begun = record {
                  long = length-set counts r total ∙ x.on.begun.long;
                  room = x.on.begun.room;
                  held = counting_write (denoted g) (price g) (costs_of cost) (proper g ok.ground.well) ok.ground.prices.exact (counts_of counts) (levels_of shallow) x.on.begun.held r total k x.cap (counts_of (set counts r total)) (count_set counts r total ruling_entry) (count_other counts r total);
                };
                keeps = λ i u. elim (ℕ_discrete i r) [
                  | yes e ↦ absurd (omega (arith, u, ap (counts_of old) e, count_entry old r rule_entry, en, unknown))
                  | no e ↦ count_other counts r total i e ∙ x.on.keeps i u
                ];
              };
              known = λ _. count_set counts r total ruling_entry;
              none = λ z. absurd (omega (arith, x.cap));
            }

        module _ (l : q < length g.owners) where
          cheapest : Cheapest (denoted g) (price g) (costs_of cost) r q
          cheapest = suits_cheapest (denoted g) (price g) (costs_of cost) r q l (x.suit l)

          pub ruling_start_at : q < length g.starts
          ruling_start_at = omega (arith, (prod_in g ok.ground.well q l).1)

          pub ruling_next_at : q + 1 < length g.starts
          ruling_next_at = (prod_in g ok.ground.well q l).1

          pub ruling_place : q < 4096
          ruling_place = omega (arith, ok.ground.well.sizes.prods_high)

          module _ (a e : ℕ) (ea : a ≡ at g.starts q) (ee : e ≡ at g.starts (q + 1)) where
            at_prod : Placed g q (at g.owners q) a e
            at_prod = placed g ok.ground.well q l (at g.owners q) a e (record { owner = refl; from = ea; to = ee })

            pub ruling_production : ProductionCountable g next cost choice (levels - 1) a e counts shallow
            ruling_production = record { ground = ok.ground; most = omega (arith, ok.most); rise = at_prod.rise; inside = at_prod.fits; begun = x.on.begun }

            module _ (y : ℕ) (counts' shallow' : List ℕ) (h : ProductionCounts g cost (levels - 1) a e counts y counts' shallow') where
              on_then : CountOn g cost old counts' shallow'
              on_then = record { begun = h.on.begun; keeps = keeps_then old counts counts' x.on.keeps h.on.keeps }

              pub ruling_long_on : length counts' ≡ length old
              ruling_long_on = on_then.begun.long ∙ sym ok.begun.long

              pub ruling_shallow : r < length shallow'
              ruling_shallow = omega (arith, rule_place, on_then.begun.room)

              -- these levels are too few for one of them
              pub ruling_fails : 65536 < y → RuleCounts g cost levels r old 65537 counts' (set shallow' r levels)
              ruling_fails k =
                  let d : deep_by g cost levels r ≡ false = subst (λ (z : ℕ). deep_by g cost z r ≡ false) {x = suc (levels - 1)} {y = levels} (omega (arith, rule_level))
                  (shallow_at (denoted g) (price g) (costs_of cost) (levels - 1) r q cheapest (subst (λ z. all_marked (deep_by g cost (levels - 1)) z ≡ false) (sym at_prod.body) (h.none k))) in
                  record {
                    on = record {
                      begun = record {
                        long = on_then.begun.long;
                        room = length-set shallow' r levels ∙ on_then.begun.room;
                        held = counting_fail (denoted g) (price g) (costs_of cost) (proper g ok.ground.well) ok.ground.prices.exact (counts_of counts') (levels_of shallow') on_then.begun.held r levels d (levels_of (set shallow' r levels)) (level_set shallow' r levels ruling_shallow) (level_other shallow' r levels);
                      };
                      keeps = on_then.keeps;
                    };
                    known = λ z. absurd (omega arith);
                    none = λ _. d;
                  }

              module _ (k : y ≤ 65536) where
                pub ruling_caps : (total ≤ 65536) × (y ≤ 65536)
                ruling_caps = (x.cap, k)

                module _ (n' : ℕ) (en' : n' ≡ at next q) where
                  pub ruling_from : FromReady g next cost r n'
                  ruling_from = next_from g next cost choice ok.ground r ok.is_rule q cheapest n' en'

                  module _ (to : ℕ) (c : CheapestFrom g cost r n' to) where
                    above : q + 1 ≤ min to (length g.owners)
                    above = next_above g next cost choice ok.ground r ok.is_rule q cheapest n' en' to c

                    between : (j : ℕ) → q + 1 ≤ j → j < min to (length g.owners) → suits (denoted g) (price g) (costs_of cost) r j ≡ false
                    between = next_between g next cost choice ok.ground r ok.is_rule q cheapest n' en' to c

                    pub ruling_less : length g.owners - to < length g.owners - q
                    ruling_less = next_less g next cost choice ok.ground r ok.is_rule q cheapest n' en' to c

                    pub ruling_on : (sum : ℕ) → sum ≡ min (total + y) 65536 → Ruling g cost r old to sum counts' shallow'
                    ruling_on sum es' =
                        let m : min q (length g.owners) ≡ q = omega arith in
                        let w = ways_skip (denoted g) (price g) (costs_of cost) (many_by g cost) (deep_by g cost g.rules) r (q + 1) (min to (length g.owners)) above between in
                        let one : q + 1 ≡ suc q = omega arith in
                        let b : all_marked (deep_by g cost g.rules) ((denoted g).body q) ≡ true = ap (all_marked (deep_by g cost g.rules)) at_prod.body ∙ h.within k in
                        let before : all_below (denoted g) (price g) (costs_of cost) (deep_by g cost g.rules) r q ≡ true = sym (ap (λ (z : ℕ). all_below (denoted g) (price g) (costs_of cost) (deep_by g cost g.rules) r z) m) ∙ x.straight in
                        let v : rule_ways (denoted g) (price g) (costs_of cost) (many_by g cost) r (suc q) ≡ rule_ways (denoted g) (price g) (costs_of cost) (many_by g cost) r q + form_ways (many_by g cost) (form g.symbols a e) =
                        ap (λ z. rule_ways (denoted g) (price g) (costs_of cost) (many_by g cost) r q + cond z (form_ways (many_by g cost) ((denoted g).body q)) 0) (x.suit l) ∙ ap (λ z. rule_ways (denoted g) (price g) (costs_of cost) (many_by g cost) r q + form_ways (many_by g cost) z) at_prod.body in
                        record {
                          on = on_then;
                          cap = omega arith;
                          most = c.most;
                          suit = λ u. elim (dec_lt to 4096) [ yes i ↦ c.costs i | no i ↦ absurd (omega (arith, ok.ground.well.sizes.prods_high)) ];
                          straight = w.1 ∙ ap (λ (z : ℕ). all_below (denoted g) (price g) (costs_of cost) (deep_by g cost g.rules) r z) one ∙ and_join before (rw (x.suit l) b);
                          ways = omega (
                            arith,
                            es',
                            x.ways,
                            ap (λ (z : ℕ). rule_ways (denoted g) (price g) (costs_of cost) (many_by g cost) r z) m,
                            h.known k,
                            w.0,
                            ap (λ (z : ℕ). rule_ways (denoted g) (price g) (costs_of cost) (many_by g cost) r z) one,
                            v,
                          );
                        }

-- a fill: the rules below r were asked for with as many levels as there are rules
pub record Filling (g : Flat) (cost : List ℕ) (r : ℕ) (counts shallow : List ℕ) : Type 0 where
  pub below : r ≤ g.rules
  pub begun : CountBegun g cost counts shallow
  pub done : (q : ℕ) → q < r → (counts_of counts q ≤ 65536) ⊎ (deep_by g cost g.rules q ≡ false)

unknown_counts : (n : ℕ) → counts_of (replicate n 65537) ≡ count_cleared
unfolding counts_of
unknown_counts n = fun_ext (cleared_at n 65537)

no_levels : levels_of (replicate 512 0) ≡ (λ r. 0)
unfolding levels_of
no_levels = fun_ext (cleared_at 512 0)

module _ (g : Flat) (next cost choice old : List ℕ) (ok : CountFillable g next cost choice old) where
  pub filling_start : (counts : List ℕ) → counts ≡ replicate (length old) 65537 → Filling g cost 0 counts (replicate 512 0)
  filling_start counts e = record {
    below = omega arith;
    begun = record {
      long = ap length e ∙ length-replicate {A = ℕ} (length old) 65537 ∙ ok.long;
      room = length-replicate {A = ℕ} 512 0;
      held = subst₂ (Counting (denoted g) (price g) (costs_of cost)) (sym (ap counts_of e ∙ unknown_counts (length old))) (sym no_levels) (counting_start (denoted g) (price g) (costs_of cost) (proper g ok.ground.well) ok.ground.prices.exact);
    };
    done = λ q l. absurd (omega arith);
  }

  module _ (r : ℕ) (counts shallow : List ℕ) (x : Filling g cost r counts shallow) where
    pub filling_long : length counts ≡ length old
    filling_long = x.begun.long ∙ sym ok.long

    pub filling_rule : (n : ℕ) → n ≡ g.rules → r < n → RuleCountable g next cost choice n r counts shallow
    filling_rule n en l = record { ground = ok.ground; most = omega (arith, ok.ground.well.sizes.rules_high); is_rule = omega arith; begun = x.begun }

    pub filling_on : (n : ℕ) → n ≡ g.rules → r < n → (y : ℕ) (counts' shallow' : List ℕ) → RuleCounts g cost n r counts y counts' shallow' → Filling g cost (r + 1) counts' shallow'
    filling_on n en l y counts' shallow' h = record { below = omega arith; begun = h.on.begun; done = λ q u. elim (ℕ_discrete q r) [ yes e ↦ last q e | no e ↦ kept q (omega arith) ] }
      where
        last : (q : ℕ) → q ≡ r → (counts_of counts' q ≤ 65536) ⊎ (deep_by g cost g.rules q ≡ false)
        last q e = elim (dec_le y 65536) [
          | yes k ↦ inl (omega (arith, ap (counts_of counts') e, h.known k))
          | no k ↦ inr (ap (deep_by g cost g.rules) e ∙ subst (λ (z : ℕ). deep_by g cost z r ≡ false) en (h.none (omega arith)))
        ]

        kept : (q : ℕ) → q < r → (counts_of counts' q ≤ 65536) ⊎ (deep_by g cost g.rules q ≡ false)
        kept q u = elim (x.done q u) [ inl k ↦ inl (omega (arith, h.on.keeps q k)) | inr k ↦ inr k ]

    pub filling_end : g.rules ≤ r → CountsDefined g (costs_of cost) counts
    filling_end l = record { long = x.begun.long; exact = counting_exact (denoted g) (price g) (costs_of cost) (proper g ok.ground.well) ok.ground.prices.exact x.begun.held all }
      where
        all : (q : ℕ) → (counts_of counts q ≤ 65536) ⊎ (deep_by g cost g.rules q ≡ false)
        all q = elim (dec_lt q r) [
          | yes k ↦ x.done q k
          | no k ↦ inr (shallow_dear (denoted g) (price g) (costs_of cost) g.rules q
              (elim (dec_le (costs_of cost q) 65535) [ yes le ↦ absurd (omega (arith, priced_below (denoted g) (price g) (costs_of cost) (proper g ok.ground.well) ok.ground.prices.exact q le, l)) | no m ↦ omega arith ]))
        ]
