-- What slices from cleared tables and a fresh job come to, for every kind.
use mathlib.Core.List.{List}
use mathlib.Core.Path.{◌≡◌, refl, sym, ◌∙◌, ap, subst}
use Prim.Native.Nat.{ℕ, ◌<◌}
use native.Mathlib.Omega.{arith}
use lib.ListN.{length, replicate, length-replicate}
use Rattle.theory.specs.Entries.{cost_unknown}
use Rattle.theory.proofs.CostRounds.{Fits, cost_any_order}
use Rattle.theory.proofs.First.{first_any_order}
use Rattle.theory.proofs.Productive.{productive_any_order}
use Rattle.theory.specs.Slices.{Progress, fresh, Slice, full, over, visit, Slices, none as nothing, more}
use Rattle.grammar.specs.Flat.{Flat, denoted, price}
use Rattle.grammar.specs.Well.{WellFormed}
use Rattle.grammar.proofs.Denoted.{proper}
use Rattle.engine.specs.First.{Lent as Firsts, lent as firsts}
use Rattle.engine.proofs.FirstMoving.{stepping as first_stepping, begun_inv as first_inv}
use Rattle.engine.proofs.FollowMoving.{words_in, stepping as follow_stepping}
use Rattle.engine.specs.Cost.{costs_of}
use Rattle.engine.proofs.CostMoving.{row_column, row_stepping, costs_fit, cost_stepping}
use Rattle.firsts.specs.Calls.{zeros as first_zeros}
use Rattle.firsts.proofs.Calling.{zeros_held as first_held, zeros_marks, zeros_begun, settled_defined}
use Rattle.follows.specs.Calls.{begun}
use Rattle.follows.proofs.Calling.{begun_held, begun_table, any_order, follow_defined}
use Rattle.tables.specs.Sizes.{words}
use Rattle.costs.specs.Calls.{zeros as row_zeros, unknown}
use Rattle.costs.proofs.Filling.{zeros_row, zeros_held as row_held, unknown_costs, unknown_long, row_fill_defined, cost_fill_defined}
use Rattle.jobs.specs.Kinds.{Tables, tables, Kind, first, follow, productive, cost, kind_of, Visit}
use Rattle.jobs.specs.declared.Job.{Job}
use Rattle.jobs.specs.Calls.{progress_of, Lends}
use Rattle.jobs.specs.Slices.{fresh_job, Cleared, Comes, Run, none, slice, between}
use Rattle.jobs.proofs.Working.{kind_on}
use Rattle.jobs.proofs.Slicing.{Lens, part_comes}

-- the parts
abbrev get_first : Tables → Firsts
get_first t = firsts t.first t.empty

abbrev put_first : Tables → Firsts → Tables
put_first t x = tables x.first x.empty t.follow t.productive t.cost t.reached

abbrev put_follow : Tables → List ℕ → Tables
put_follow t x = tables t.first t.empty x t.productive t.cost t.reached

abbrev put_productive : Tables → List ℕ → Tables
put_productive t x = tables t.first t.empty t.follow x t.cost t.reached

abbrev put_cost : Tables → List ℕ → Tables
put_cost t x = tables t.first t.empty t.follow t.productive x t.reached

lens_first : Lens get_first put_first
lens_first = record { same = λ t. refl; twice = λ t x y. refl }

lens_follow : Lens (λ t. t.follow) put_follow
lens_follow = record { same = λ t. refl; twice = λ t x y. refl }

lens_productive : Lens (λ t. t.productive) put_productive
lens_productive = record { same = λ t. refl; twice = λ t x y. refl }

lens_cost : Lens (λ t. t.cost) put_cost
lens_cost = record { same = λ t. refl; twice = λ t x y. refl }

module _ (g : Flat) (w : WellFormed g) where
  some : 0 < length g.owners
  some = omega (arith, w.sizes.prods_low)

  zeros_long : (g : Flat) → length (row_zeros g) ≡ words g.rules
  zeros_long g = length-replicate {A = ℕ} (words g.rules) 0

  unknown_fits : Fits g.rules (costs_of (unknown g))
  unknown_fits = costs_fit g (unknown g) (unknown_long g) (λ r. omega (arith, ap (λ z. z r) (unknown_costs g)))

  -- what slices of each kind come to, however the visits are divided into slices
  pub kind_comes : (k : Kind) (t : Tables) → Cleared k g t → {n : ℕ} {i : Progress} {d : Tables} → Slices (Visit k g) (length g.owners) n fresh t i d → Comes k g n i d
  kind_comes first t c {d = d} s =
      let x = part_comes get_first put_first lens_first (first_stepping g w) (first_any_order (denoted g) (proper g w)) t (first_zeros g) c (first_held g) (zeros_marks g) (first_inv g w (first_zeros g) (zeros_begun g w).fit) some s in
      record { left = λ e. settled_defined g w (get_first d) (x.settles e); ends = x.ends; always = x.holds }
  kind_comes (follow read) t c {d = d} s =
      let x = part_comes (λ t. t.follow) put_follow lens_follow (follow_stepping g w read) (any_order g w read c.0) t (begun g) c.1 (begun_held g w) (begun_table g w) (words_in g w read (begun g)) some s in
      record { left = λ e. follow_defined g w read c.0 d.follow (x.settles e); ends = x.ends; always = x.holds }
  kind_comes productive t c {d = d} s =
      let x = part_comes (λ t. t.productive) put_productive lens_productive (row_stepping g w) (productive_any_order (denoted g) (proper g w)) t (row_zeros g) c (row_held g) (zeros_row g) (row_column g.rules (row_zeros g)) some s in
      record {
        left = λ e. row_fill_defined g (row_zeros g) (record { well = w; long = zeros_long g }) (row_zeros g) (ap (λ z. replicate z 0) (sym (zeros_long g))) d.productive (x.settles e);
        ends = x.ends;
        always = x.holds;
      }
  kind_comes cost t c {d = d} s =
      let x = part_comes (λ t. t.cost) put_cost lens_cost (cost_stepping g w) (cost_any_order (denoted g) (price g) (proper g w)) t (unknown g) c (unknown_long g) (unknown_costs g) unknown_fits some s in
      record {
        left = λ e. cost_fill_defined g (unknown g) (record { well = w; long = unknown_long g }) (unknown g) (ap (λ z. replicate z cost_unknown) (sym (unknown_long g))) d.cost (x.settles e);
        ends = x.ends;
        always = x.holds;
      }

-- the calls of a job are slices of its kind
slice_kind : (n : ℕ) (g : Flat) (P : ℕ) (k : Kind) {m v : ℕ} {j i : Progress} {a d : Tables} → kind_of n a ≡ k → Slice (Visit k g) P m j a v i d → kind_of n d ≡ k
slice_kind n g P k is full = is
slice_kind n g P k is (over e) = is
slice_kind n g P k is (visit {j = j} {a = a} {b = b} x e v s) = slice_kind n g P k (kind_on n g j.next a x b (subst (λ z. Visit z g j.next a x b) (sym is) v) ∙ is) s

run_slices : (g : Flat) (k : Kind) {n : ℕ} {j i : Job} {a d : Tables} → Run g n j a i d → kind_of j.kind a ≡ k → Slices (Visit k g) (length g.owners) n (progress_of j) a (progress_of i) d
run_slices g k none is = nothing
run_slices g k {i = l} {d = d} (slice {s = s} {j = j} {i = i} {a = a} {b = b} n r e due v rest) is =
    let x = v.does due in
    let y : Slice (Visit k g) (length g.owners) n (progress_of j) a x.made x.stands b = subst (λ z. Slice (Visit z g) (length g.owners) n (progress_of j) a x.made x.stands b) is x.slice in
    let kind : i.kind ≡ j.kind = ap (λ (z : Job). z.kind) x.job in
    let ih : Slices (Visit k g) (length g.owners) s (progress_of i) b (progress_of l) d = run_slices g k rest (ap (λ z. kind_of z b) kind ∙ slice_kind j.kind g (length g.owners) k is y) in
    more n e y (subst (λ z. Slices (Visit k g) (length g.owners) s z b (progress_of l) d) (ap progress_of x.job) ih)
run_slices g k {i = l} {d = d} (between {s = s} {j = j} {i = i} {a = a} {b = b} h n m r due v rest) is =
    let q = v.keeps m due in
    let ih : Slices (Visit k g) (length g.owners) s (progress_of i) b (progress_of l) d = run_slices g k rest (ap (λ (z : Lends). kind_of z.job.kind z.lent) q ∙ is) in
    subst (λ (z : Lends). Slices (Visit k g) (length g.owners) s (progress_of z.job) z.lent (progress_of l) d) q ih

-- from cleared tables and a fresh job of the kind, on one grammar throughout, with refused calls between
pub job_comes : (g : Flat) → WellFormed g → (kind : ℕ) (t : Tables) → Cleared (kind_of kind t) g t → {n : ℕ} {i : Job} {d : Tables} → Run g n (fresh_job kind) t i d → Comes (kind_of kind t) g n (progress_of i) d
job_comes g w kind t c r = kind_comes g w (kind_of kind t) t c (run_slices g (kind_of kind t) r refl)
