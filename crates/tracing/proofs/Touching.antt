-- A pair of a crossed cell leads exactly to the crossed cells that it touches, so the road of a seed is that of its ground.
use Rattle.std.proofs.Common.{◌≡◌, ℕ, ◌+◌, ◌*◌, ◌/◌, ◌%◌, ◌<◌, Bool, true, false, cond, ◌↔◌, List, [], ◌∷◌, Some, None, Ok, Err, Result, sym, refl, ap, ◌∙◌, subst, ap₂, arith}
use lib.Arith.{digits_lt}
use Rattle.std.proofs.lemmas.Nat.{div-mul-add, mod_below, mod-mul-add}
use Rattle.std.proofs.lemmas.Bool.{cond-true}
use Rattle.grid.specs.Refusals.{RefusalNumbers}
use Rattle.grid.proofs.Framed.{framed}
use Rattle.cells.specs.Cells.{is_cell}
use Rattle.cells.specs.Cofacets.{cofacet_answer, cofacet_of}
use Rattle.cells.specs.Facets.{facet_of}
use Rattle.cells.specs.declared.records.CellRecord.{CellRecord}
use Rattle.cells.proofs.Answering.{facet_granted, granted_cofacet, granted_facet}
use Rattle.cells.proofs.Checked.{cell_placed, is_cell_lem}
use Rattle.cells.proofs.Relating.{all_cofacets, cofacet_parts, cofacet_placed}
use Rattle.fields.specs.Fields.{Good, Meaning, sides_in}
use Rattle.crossing.specs.Boxes.{lies_in}
use Rattle.crossing.proofs.Fitting.{Fits, fits_parts}
use Rattle.walk.specs.Grounds as ground
use Rattle.tracing.specs.Roads.{Chain, CrossedOver, OnRoad, Touches}
use Rattle.tracing.specs.Steps.{through_cofacet}
use Rattle.tracing.proofs.Grounded.{crossed_is, ground_of}

-- what it says that a pair leads to b
record Through (sides : List ℕ) (i : ℕ) (b : CellRecord) (o : Result CellRecord RefusalNumbers) : Type 0 where
  over : CellRecord
  granted : o ≡ Ok over
  in_box : lies_in sides over ≡ true
  is : facet_of over i ≡ b

led_through : (sides : List ℕ) (i : ℕ) (b : CellRecord) (o : Result CellRecord RefusalNumbers) → through_cofacet sides i o ≡ Some b → Through sides i b o
led_through sides i b (Ok t) e = go (lies_in sides t) refl e
  where
    go : (k : Bool) → lies_in sides t ≡ k → cond k (Some (facet_of t i)) None ≡ Some b → Through sides i b (Ok t)
    go true h e = record { over = t; granted = refl; in_box = h; is = (cc) }
    go false h e = absurd (let z : ◌≡◌ {A = ℕ} 0 1 = cc in omega arith)
led_through sides i b (Err f) e = absurd (let z : ◌≡◌ {A = ℕ} 0 1 = cc in omega arith)

module _ (m : Meaning) (good : Good m) where
  fits : (c : CellRecord) → CrossedOver m c → Fits m.frame c
  fits c o = fits_parts m.frame c o.fits

  touch_touches : (a b : CellRecord) → ground.Touch (ground_of m) a b → Touches m a b
  touch_touches a b h =
      let left = (crossed_is m good a).0 h.left in
      let f = fits a left in
      let cell = is_cell_lem a f.is in
      let i : ℕ = h.number % (a.l + 2) in
      let n : ℕ = h.number / (a.l + 2) in
      let p = led_through (sides_in m) i b (cofacet_answer a n) h.leads_to in
      let g = granted_cofacet a n p.over p.granted in
      let size : p.over.l ≡ a.l + 1 = ap (λ (r : CellRecord). r.l) (sym g.is) in
      let small = mod_below h.number (a.l + 2) (omega arith) in
      let is : is_cell p.over ≡ true = subst (λ (r : CellRecord). is_cell r ≡ true) g.is (cell_placed (cofacet_of a n) (cofacet_parts a cell n g.within) (cofacet_placed a cell n g.within ∙ g.world)) in
      record {
        left = left;
        right = (crossed_is m good b).0 h.right;
        over = p.over;
        is = is;
        dimension = size ∙ ap (λ k. k + 1) f.rows;
        in_box = p.in_box;
        has_left = ((all_cofacets a cell).dual p.over is).1 (n, p.granted);
        has_right = (i, facet_granted p.over i (omega arith) (omega arith) ∙ ap Ok p.is);
      }

  touches_touch : (a b : CellRecord) → Touches m a b → ground.Touch (ground_of m) a b
  touches_touch a b h =
      let cell = is_cell_lem a (fits a h.left).is in
      let c = ((all_cofacets a cell).dual h.over h.is).0 h.has_left in
      let g = granted_cofacet a c.0 h.over c.1 in
      let q = granted_facet h.over h.has_right.0 b h.has_right.1 in
      let size : h.over.l ≡ a.l + 1 = ap (λ (r : CellRecord). r.l) (sym g.is) in
      let small : h.has_right.0 < a.l + 2 = omega (arith, q.within) in
      record {
        left = (crossed_is m good a).1 h.left;
        right = (crossed_is m good b).1 h.right;
        number = c.0 * (a.l + 2) + h.has_right.0;
        below = digits_lt g.within small;
        leads_to =
            ap₂ (λ n i. through_cofacet (sides_in m) i (cofacet_answer a n)) (div-mul-add c.0 (a.l + 2) h.has_right.0 small) (mod-mul-add c.0 (a.l + 2) h.has_right.0 small)
            ∙ ap (through_cofacet (sides_in m) h.has_right.0) c.1
            ∙ cond-true _ _ _ h.in_box
            ∙ ap Some q.is;
      }

  touches_back : (a b : CellRecord) → Touches m a b → Touches m b a
  touches_back a b h = record { left = h.right; right = h.left; over = h.over; is = h.is; dimension = h.dimension; in_box = h.in_box; has_left = h.has_right; has_right = h.has_left }

  pub ground_lawful : ground.Lawful (ground_of m)
  ground_lawful = record {
    turns_back = λ a b h. touches_touch b a (touches_back a b (touch_touches a b h));
    some_pair = λ c e. (let f = fits c ((crossed_is m good c).0 e) in let k = (framed m.frame.d m.frame.k m.frame.sides good.framed).k_below in (all_cofacets c (is_cell_lem c f.is)).pairs (omega (arith, f.rows, f.axes)));
  }

  chain_there : (via : List CellRecord) (a b : CellRecord) → ground.Chain (ground_of m) a via b → Chain m a via b
  chain_there [] a b e = e
  chain_there (x ∷ via) a b e = (touch_touches a x e.0, chain_there via x b e.1)

  chain_here : (via : List CellRecord) (a b : CellRecord) → Chain m a via b → ground.Chain (ground_of m) a via b
  chain_here [] a b e = e
  chain_here (x ∷ via) a b e = (touches_touch a x e.0, chain_here via x b e.1)

  pub road_is : (seed c : CellRecord) → ground.Road (ground_of m) seed c ↔ OnRoad m seed c
  road_is seed c = (
    λ r. record { crossed = (crossed_is m good c).0 r.0; reaches = (r.1.0, chain_there r.1.0 c seed r.1.1) },
    λ r. ((crossed_is m good c).1 r.crossed, (r.reaches.0, chain_here r.reaches.0 c seed r.reaches.1)),
  )
