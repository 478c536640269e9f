-- What it means that a call answers a facet or a cofacet.
use Rattle.std.proofs.Common.{◌≡◌, ℕ, ◌<◌, ◌≤◌, Bool, true, false, cond, ◌&&◌, ltb, leb, length, Some, None, Ok, Err, refl, sym, ap, ◌∙◌, arith}
use Rattle.std.proofs.lemmas.Bool.{and_from, and_parts, le-leb, leb-true, lt-ltb, ltb-true}
use Rattle.grid.specs.Refusals.{refusal}
use Rattle.cells.specs.Cells.{all_in_world}
use Rattle.cells.specs.Cofacets.{cofacet_answer, cofacet_of}
use Rattle.cells.specs.Facets.{facet_answer, facet_of}
use Rattle.cells.specs.Splits.{splits}
use Rattle.cells.specs.Vertices.{vertex_answer, vertex_of}
use Rattle.cells.specs.declared.records.CellRecord.{CellRecord}

-- an answer that is granted was granted for its test, with its value
granted : {X Y : Type 0} (b : Bool) (x z : X) (e : Y) → cond b (Ok x) (Err e) ≡ Ok z → (b ≡ true) × (x ≡ z)
granted true x z e h = (refl, (cc))
granted false x z e h = absurd (let n : ◌≡◌ {A = ℕ} 0 1 = cc in omega arith)

pub vertex_granted : (r : CellRecord) (i : ℕ) → i ≤ r.l → Some (vertex_of r i) ≡ vertex_answer r i
vertex_granted r i h = sym (ap (λ b. cond b (Some (vertex_of r i)) None) (le-leb i r.l h))

pub facet_granted : (r : CellRecord) (i : ℕ) → 1 ≤ r.l → i ≤ r.l → facet_answer r i ≡ Ok (facet_of r i)
facet_granted r i h g = ap (λ b. cond b (Ok (facet_of r i)) (Err (refusal 3))) (and_from (leb 1 r.l) (leb i r.l) (le-leb 1 r.l h) (le-leb i r.l g))

pub record GrantedFacet (r : CellRecord) (i : ℕ) (s : CellRecord) : Type 0 where
  pub some : 1 ≤ r.l
  pub within : i ≤ r.l
  pub is : facet_of r i ≡ s

pub granted_facet : (r : CellRecord) (i : ℕ) (s : CellRecord) → facet_answer r i ≡ Ok s → GrantedFacet r i s
granted_facet r i s h =
    let g = granted (leb 1 r.l && leb i r.l) (facet_of r i) s (refusal 3) h in
    let t = and_parts (leb 1 r.l) (leb i r.l) g.0 in
    record { some = leb-true 1 r.l t.0; within = leb-true i r.l t.1; is = g.1 }

pub cofacet_granted : (r : CellRecord) (c : ℕ) → c < length (splits r) → all_in_world (cofacet_of r c) ≡ true → cofacet_answer r c ≡ Ok (cofacet_of r c)
cofacet_granted r c h g =
    ap (λ b. cond b (cond (all_in_world (cofacet_of r c)) (Ok (cofacet_of r c)) (Err (refusal 4))) (Err (refusal 3))) (lt-ltb c (length (splits r)) h)
    ∙ ap (λ b. cond b (Ok (cofacet_of r c)) (Err (refusal 4))) g

pub record GrantedCofacet (r : CellRecord) (c : ℕ) (t : CellRecord) : Type 0 where
  pub within : c < length (splits r)
  pub world : all_in_world (cofacet_of r c) ≡ true
  pub is : cofacet_of r c ≡ t

pub granted_cofacet : (r : CellRecord) (c : ℕ) (t : CellRecord) → cofacet_answer r c ≡ Ok t → GrantedCofacet r c t
granted_cofacet r c t h = outer (ltb c (length (splits r))) refl h
  where
    outer : (b : Bool) → ltb c (length (splits r)) ≡ b → cond b (cond (all_in_world (cofacet_of r c)) (Ok (cofacet_of r c)) (Err (refusal 4))) (Err (refusal 3)) ≡ Ok t → GrantedCofacet r c t
    outer true e h =
        let g = granted (all_in_world (cofacet_of r c)) (cofacet_of r c) t (refusal 4) h in
        record { within = ltb-true c (length (splits r)) e; world = g.0; is = g.1 }
    outer false e h = absurd (let n : ◌≡◌ {A = ℕ} 0 1 = cc in omega arith)
