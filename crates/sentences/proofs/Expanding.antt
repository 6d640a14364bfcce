-- Expansion step by step: what is written so far, what is left, the room for it, and what is remembered.
use mathlib.Core.Bool.{true, false≢true}
use mathlib.Core.List.{List, [], ◌∷◌, ◌++◌, append-nil, append_assoc}
use mathlib.Core.Path.{◌≡◌, refl, sym, ap, ◌∙◌, subst}
use Prim.Native.Nat.{ℕ, zero, suc, ◌+◌, ◌-◌, ◌≤◌, ◌<◌}
use native.Mathlib.Decide.{ℕ_discrete}
use native.Mathlib.Omega.{arith}
use lib.ListN.{length, set, length-set, length-append, replicate, length-replicate, get_or-replicate}
use lib.Seq.{slice, get_or-set_same, get_or-set_other}
use Rattle.theory.specs.Grammar.{tok, rul, Grammar}
use Rattle.theory.specs.Levels.{Choices, Chosen, LengthExact, within, filled, expanded}
use Rattle.theory.specs.Visits.{Costs, all_marked}
use Rattle.theory.proofs.Bools.{and_split}
use Rattle.theory.proofs.Expanding.{expanded_one, expanded_short, expanded_empty}
use Rattle.grammar.specs.Flat.{Flat, at, form, denoted, price}
use Rattle.grammar.specs.Well.{WellFormed}
use Rattle.grammar.proofs.Denoted.{proper}
use Rattle.grammar.proofs.Forms.{prod_in, Placed, placed}
use Rattle.tables.specs.Append.{Appended}
use Rattle.tables.proofs.Appending.{appended_long, appended_none, appended_one, appended_then, appended_before, appended_there}
use Rattle.engine.proofs.Spans.{span, span_done, span_in, span_is, span_token, span_rule}
use Rattle.engine.proofs.Summing.{default_same}
use Rattle.sentences.specs.Lent.{choices_of, lengths_of}
use Rattle.sentences.specs.Expanding.{Leads, Copyable, not_written, Stood, Remembers, Wrote, RuleReady, ProductionReady}
use Rattle.sentences.proofs.Counting.{length_entry}

-- the first choices and the lengths lead the way
pub leads_way : (g : Flat) → WellFormed g → (c : Costs) (choice lengths : List ℕ) → Chosen (denoted g) (price g) c (choices_of choice) → LengthExact (denoted g) (price g) c (lengths_of lengths)
    → Leads (denoted g) (choices_of choice) (lengths_of lengths)
leads_way g w c choice lengths ch x = record {
  picks = λ r h. (ch.is r h).is_prod;
  empty = expanded_empty (denoted g) (price g) c (proper g w) (choices_of choice) ch (lengths_of lengths) x;
  same = expanded_one (denoted g) (price g) c (proper g w) (choices_of choice) ch;
  long = expanded_short (denoted g) (price g) c (proper g w) (choices_of choice) ch (lengths_of lengths) x;
}

-- at the start nothing is remembered
pub remembers_none : (g : Flat) → WellFormed g → (choice out : List ℕ) → Remembers g choice (replicate 512 65535) 0 out
remembers_none g w choice out = record {
  room = length-replicate {A = ℕ} 512 65535;
  stood = λ n r lr h l. absurd (omega (arith, l, get_or-replicate {A = ℕ} 512 r 65535 0 (omega (arith, w.sizes.rules_high))));
}

-- what is remembered stays where more is written behind it
pub remembers_more : {g : Flat} {choice begun out w to : List ℕ} {from n : ℕ} → Remembers g choice begun from out → Appended out from w to n → Remembers g choice begun n to
remembers_more {g} {choice} {begun} {out} {w} {to} {from} {n} m x = record { room = m.room; stood = λ k r lr h l. let s = m.stood k r lr h l in record { before = omega (arith, s.before, x.next); is = appended_before x (at begun r) (at begun r + length (expanded (denoted g) (choices_of choice) k r)) s.before ∙ s.is } }

-- a production: w is written for the first i symbols from a on
pub record Expanding (g : Flat) (choice : List ℕ) (levels a e at : ℕ) (old : List ℕ) (i next : ℕ) (begun out : List ℕ) : Type 0 where
  pub high : a + i ≤ e
  pub w : List ℕ
  pub wrote : Appended old at w out next
  pub whole : filled (expanded (denoted g) (choices_of choice) levels) (form g.symbols a e) ≡ w ++ filled (expanded (denoted g) (choices_of choice) levels) (form g.symbols (a + i) e)
  pub rest : all_marked (within (denoted g) (choices_of choice) levels) (form g.symbols (a + i) e) ≡ true
  pub remembers : Remembers g choice begun next out

module _ (g : Flat) (choice lengths : List ℕ) (levels a e at' : ℕ) (first old : List ℕ) (ok : ProductionReady g choice lengths levels a e at' first old) where
  abbrev f : ℕ → List ℕ
  f = expanded (denoted g) (choices_of choice) levels

  pub expanding_start : Expanding g choice levels a e at' old 0 at' first old
  expanding_start =
      let here : a ≡ a + 0 = omega arith in
      record {
        high = omega (arith, ok.rise);
        w = [];
        wrote = appended_none old at';
        whole = ap (λ z. filled f (form g.symbols z e)) here;
        rest = subst (λ z. all_marked (within (denoted g) (choices_of choice) levels) (form g.symbols z e) ≡ true) here ok.grounded;
        remembers = ok.remembers;
      }

  module _ (i next : ℕ) (begun out : List ℕ) (x : Expanding g choice levels a e at' old i next begun out) where
    -- the room for what is left
    room : next + length (filled f (form g.symbols (a + i) e)) ≤ length out
    room = omega (arith, ok.fits, ap length x.whole, length-append x.w (filled f (form g.symbols (a + i) e)), x.wrote.next, appended_long x.wrote)

    low_room : next + length (filled f (form g.symbols (a + i) e)) ≤ 65535
    low_room = omega (arith, ok.most, ap length x.whole, length-append x.w (filled f (form g.symbols (a + i) e)), x.wrote.next)

    pub expanding_end : length (span g.symbols a e) ≤ i → Wrote g choice old at' (filled f (form g.symbols a e)) begun out next
    expanding_end l = record {
      appends = subst (λ z. Appended old at' z out next) (sym (x.whole ∙ rw (span_done g.symbols a e ok.inside i x.high l) (append-nil x.w))) x.wrote;
      remembers = x.remembers;
    }

    pub expanding_long : length out ≡ length old
    expanding_long = appended_long x.wrote

    module _ (l : i < length (span g.symbols a e)) (s : ℕ) (es : s ≡ at (span g.symbols a e) i) where
      pub expanding_symbol : a + i < length g.symbols
      expanding_symbol = omega (arith, ok.inside, span_in g.symbols a e ok.inside i l)

      module _ (low : s < 32768) where
        front : form g.symbols (a + i) e ≡ tok s ∷ form g.symbols (a + (i + 1)) e
        front = span_token g.symbols a e ok.inside i l s es low

        pub expanding_place : next < length out
        expanding_place = omega (arith, room, ap (λ z. length (filled f z)) front)

        pub expanding_low : next < 65535
        expanding_low = omega (arith, low_room, ap (λ z. length (filled f z)) front)

        pub expanding_token : Expanding g choice levels a e at' old (i + 1) (next + 1) begun (set out next s)
        expanding_token = record {
          high = omega (arith, span_in g.symbols a e ok.inside i l);
          w = x.w ++ (s ∷ []);
          wrote = appended_then x.wrote (appended_one out next s);
          whole = x.whole ∙ rw front (sym (append_assoc x.w (s ∷ []) (filled f (form g.symbols (a + (i + 1)) e))));
          rest = rw front at x.rest;
          remembers = remembers_more x.remembers (appended_one out next s);
        }

      module _ (high : 32768 ≤ s) (r : ℕ) (er : r ≡ s - 32768) where
        opens : form g.symbols (a + i) e ≡ rul r ∷ form g.symbols (a + (i + 1)) e
        opens = rw er (span_rule g.symbols a e ok.inside i l s es high)

        parts : (within (denoted g) (choices_of choice) levels r ≡ true) × (all_marked (within (denoted g) (choices_of choice) levels) (form g.symbols (a + (i + 1)) e) ≡ true)
        parts = and_split (within (denoted g) (choices_of choice) levels r) _ (rw opens at x.rest)

        pub expanding_rule : RuleReady g choice lengths levels r next begun out
        expanding_rule = record {
          led = ok.led;
          is_rule = omega (arith, span_is g.symbols a e ok.inside i l s es, (ok.led.well.symbols (a + i) expanding_symbol).rule (omega (arith, span_is g.symbols a e ok.inside i l s es)));
          grounded = parts.0;
          fits = omega (arith, room, ap (λ z. length (filled f z)) opens, length-append (f r) (filled f (form g.symbols (a + (i + 1)) e)));
          most = omega (arith, low_room, ap (λ z. length (filled f z)) opens, length-append (f r) (filled f (form g.symbols (a + (i + 1)) e)));
          remembers = x.remembers;
        }

        pub expanding_on : (to : ℕ) (then new : List ℕ) → Wrote g choice out next (f r) then new to → Expanding g choice levels a e at' old (i + 1) to then new
        expanding_on to then new h = record {
          high = omega (arith, span_in g.symbols a e ok.inside i l);
          w = x.w ++ f r;
          wrote = appended_then x.wrote h.appends;
          whole = x.whole ∙ rw opens (sym (append_assoc x.w (f r) (filled f (form g.symbols (a + (i + 1)) e))));
          rest = parts.1;
          remembers = h.remembers;
        }

-- a rule: its first choice, one level less
module _ (g : Grammar) (h : Choices) where
  level_left : (n r : ℕ) → within g h n r ≡ true → n ≡ suc (n - 1)
  level_left zero r e = absurd (false≢true e)
  level_left (suc n) r e = omega arith

module _ (g : Flat) (choice lengths : List ℕ) (levels r at' : ℕ) (begun out : List ℕ) (ok : RuleReady g choice lengths levels r at' begun out) where
  abbrev written : List ℕ
  written = expanded (denoted g) (choices_of choice) levels r

  pub rule_length : r < length lengths
  rule_length = omega (arith, ok.is_rule, ok.led.long)

  pub rule_choice : r < 512
  rule_choice = omega (arith, ok.is_rule, ok.led.well.sizes.rules_high)

  pub rule_empty : (n : ℕ) → n ≡ at lengths r → n ≡ 0 → Wrote g choice out at' (expanded (denoted g) (choices_of choice) levels r) begun out at'
  rule_empty n en z = record { appends = rw (ok.led.leads.empty levels r ok.grounded (length_entry lengths r rule_length ∙ sym en ∙ z)) (appended_none out at'); remembers = ok.remembers }

  -- it has been written: it is copied
  module _ (n : ℕ) (en : n ≡ at lengths r) (from : ℕ) (ef : from ≡ at begun r) (l : from < not_written) where
    there : Stood out from written at'
    there = subst (λ z. Stood out z written at') (sym ef) (ok.remembers.stood levels r ok.is_rule ok.grounded (omega (arith, ef)))

    as_long : n ≡ length written
    as_long = en ∙ sym (length_entry lengths r rule_length) ∙ ok.led.leads.long levels r ok.grounded (omega (arith, ok.most))

    pub rule_copyable : Copyable from n at' out
    rule_copyable = record { before = omega (arith, there.before, as_long); fits = omega (arith, ok.fits, as_long); most = omega (arith, ok.most, as_long) }

    pub rule_copied : (x : ℕ) (new : List ℕ) → Appended out at' (slice from (from + n) out) new x → Wrote g choice out at' (expanded (denoted g) (choices_of choice) levels r) begun new x
    rule_copied x new h =
        let a : Appended out at' written new x = subst (λ z. Appended out at' z new x) (ap (λ z. slice from (from + z) out) as_long ∙ there.is) h in
        record { appends = a; remembers = remembers_more ok.remembers a }

  left : levels ≡ suc (levels - 1)
  left = level_left (denoted g) (choices_of choice) levels r ok.grounded

  pub rule_level : 1 ≤ levels
  rule_level = omega (arith, left)

  above_it : ((choices_of choice).has r ≡ true) × (all_marked (within (denoted g) (choices_of choice) (levels - 1)) ((denoted g).body ((choices_of choice).prod r)) ≡ true)
  above_it = and_split ((choices_of choice).has r) _ (subst (λ z. within (denoted g) (choices_of choice) z r ≡ true) left ok.grounded)

  module _ (p : ℕ) (ep : p ≡ at choice r) where
    picked : (choices_of choice).prod r ≡ p
    unfolding choices_of
    picked = default_same choice r 4096 0 (omega (arith, rule_choice, ok.led.room)) ∙ sym ep

    is_prod_law : p < length g.owners
    is_prod_law = subst (λ z. z < length g.owners) picked (ok.led.leads.picks r above_it.0)

    pub rule_start : p < length g.starts
    rule_start = omega (arith, (prod_in g ok.led.well p is_prod_law).1)

    pub rule_next : p + 1 < length g.starts
    rule_next = (prod_in g ok.led.well p is_prod_law).1

    module _ (a e : ℕ) (ea : a ≡ at g.starts p) (ee : e ≡ at g.starts (p + 1)) where
      at_prod : Placed g p (at g.owners p) a e
      at_prod = placed g ok.led.well p is_prod_law (at g.owners p) a e (record { owner = refl; from = ea; to = ee })

      body : (denoted g).body ((choices_of choice).prod r) ≡ form g.symbols a e
      body = ap (denoted g).body picked ∙ at_prod.body

      stands : expanded (denoted g) (choices_of choice) levels r ≡ filled (expanded (denoted g) (choices_of choice) (levels - 1)) (form g.symbols a e)
      stands = ap (λ z. expanded (denoted g) (choices_of choice) z r) left ∙ ap (filled (expanded (denoted g) (choices_of choice) (levels - 1))) body

      pub rule_production : ProductionReady g choice lengths (levels - 1) a e at' begun out
      rule_production = record {
        led = ok.led;
        rise = at_prod.rise;
        inside = at_prod.fits;
        grounded = subst (λ z. all_marked (within (denoted g) (choices_of choice) (levels - 1)) z ≡ true) body above_it.1;
        fits = subst (λ z. at' + length z ≤ length out) stands ok.fits;
        most = subst (λ z. at' + length z ≤ 65535) stands ok.most;
        remembers = ok.remembers;
      }

      -- it is written, and remembered from now on
      module _ (x : ℕ) (then new : List ℕ) (k : Wrote g choice out at' (filled (expanded (denoted g) (choices_of choice) (levels - 1)) (form g.symbols a e)) then new x) where
        wrote : Appended out at' written new x
        wrote = subst (λ z. Appended out at' z new x) (sym stands) k.appends

        rule_again : r < length then
        rule_again = omega (arith, rule_choice, k.remembers.room)

        here : (n : ℕ) → within (denoted g) (choices_of choice) n r ≡ true → Stood new at' (expanded (denoted g) (choices_of choice) n r) x
        here n h = subst (λ z. Stood new at' z x) (ok.led.leads.same levels n r ok.grounded h) (record { before = omega (arith, wrote.next); is = appended_there wrote ok.fits })

        pub rule_wrote : Wrote g choice out at' (expanded (denoted g) (choices_of choice) levels r) (set then r at') new x
        rule_wrote = record {
          appends = wrote;
          remembers = record {
            room = length-set then r at' ∙ k.remembers.room;
            stood = λ n q lq h l. elim (ℕ_discrete q r) [
              | yes e ↦ subst (λ z. Stood new (at (set then r at') z) (expanded (denoted g) (choices_of choice) n z) x) (sym e) (subst (λ z. Stood new z (expanded (denoted g) (choices_of choice) n r) x) (sym (get_or-set_same then r at' 0 rule_again)) (here n (subst (λ z. within (denoted g) (choices_of choice) n z ≡ true) e h)))
              | no e ↦
                  let same : at (set then r at') q ≡ at then q = get_or-set_other then r q at' 0 e in
                  subst (λ z. Stood new z (expanded (denoted g) (choices_of choice) n q) x) (sym same) (k.remembers.stood n q lq h (omega (arith, same)))
            ];
          };
        }
