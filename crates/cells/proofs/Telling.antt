-- Equal vertices mean equal cells: vertex 0 is the base, and the vertex at which an axis rises tells its label.
use Rattle.std.proofs.Common.{◌≡◌, ℕ, ◌+◌, ◌<◌, ◌≤◌, [], length, get_or, ℤ, pos, ◌+ℤ◌, sym, ap, ◌∙◌, inl, inr, arith}
use Rattle.std.proofs.lemmas.List.{ext_get_or}
use Rattle.std.proofs.lemmas.Int.{ints}
use Rattle.std.proofs.lemmas.Bool.{cases_lt}
use Rattle.std.proofs.lemmas.Bool.Decides.{nat_tests}
use Rattle.grid.proofs.Below.{get_or-table, length-table}
use Rattle.cells.specs.Cells.{IsCell}
use Rattle.cells.specs.Records.{base_at, label}
use Rattle.cells.specs.Vertices.{coordinate, vertex_of, vertices_of}
use Rattle.cells.specs.declared.records.CellRecord.{CellRecord}
use Rattle.cells.proofs.Ascending.{cell_labelled}
use Rattle.cells.proofs.Recorded.{same_record_lem}
use Rattle.cells.proofs.Walked.{closed_form, passed}

cancel : (z : ℤ) (m n : ℕ) → z +ℤ pos m ≡ z +ℤ pos n → m ≡ n
cancel z m n e = omega (arith, ints)

-- two labels that are passed at the same vertices are equal
same_passed : (l x y : ℕ) → 1 ≤ x → x ≤ l + 1 → 1 ≤ y → y ≤ l + 1 → ((i : ℕ) → i ≤ l → passed x i ≡ passed y i) → x ≡ y
same_passed l x y h g f e s = elim (cases_lt l x) [
  | inl u ↦ (elim (cases_lt l y) [ inl v ↦ omega arith | inr v ↦ (let b = s y v in grind (arith, nat_tests)) ])
  | inr u ↦ (elim (cases_lt l y) [ inl v ↦ (let a = s x u in grind (arith, nat_tests)) | inr v ↦ (let a = s x u in let b = s y v in grind (arith, nat_tests)) ])
]

module _ (r s : CellRecord) (cr : IsCell r) (cs : IsCell s) (e : vertices_of s ≡ vertices_of r) where
  same_l : s.l ≡ r.l
  same_l =
      let n : s.l + 1 ≡ r.l + 1 = sym (length-table (s.l + 1) (vertex_of s)) ∙ ap length e ∙ length-table (r.l + 1) (vertex_of r) in
      omega arith

  same_vertex_lem : (i : ℕ) → i ≤ r.l → vertex_of s i ≡ vertex_of r i
  same_vertex_lem i h =
      sym (get_or-table (s.l + 1) (vertex_of s) i [] (omega (arith, same_l)))
      ∙ ap (λ vs. get_or vs i []) e
      ∙ get_or-table (r.l + 1) (vertex_of r) i [] (omega arith)

  same_d : s.d ≡ r.d
  same_d = sym (length-table s.d (coordinate s 0)) ∙ ap length (same_vertex_lem 0 (omega arith)) ∙ length-table r.d (coordinate r 0)

  same_coordinate : (i a : ℕ) → i ≤ r.l → a < r.d → coordinate s i a ≡ coordinate r i a
  same_coordinate i a h g =
      sym (get_or-table s.d (coordinate s i) a (pos 0) (omega (arith, same_d)))
      ∙ ap (λ v. get_or v a (pos 0)) (same_vertex_lem i h)
      ∙ get_or-table r.d (coordinate r i) a (pos 0) g

  same_base : (a : ℕ) → base_at s a ≡ base_at r a
  same_base a = elim (cases_lt a r.d) [
    | inl g ↦ same_coordinate 0 a (omega arith) g
    | inr g ↦ cs.base_rest a (omega (arith, same_d)) ∙ sym (cr.base_rest a g)
  ]

  same_step : (i a : ℕ) → i ≤ r.l → a < r.d → passed (label s a) i ≡ passed (label r a) i
  same_step i a h g = cancel (base_at r a) _ _ (
      ap (λ z. z +ℤ pos (passed (label s a) i)) (sym (same_base a))
      ∙ sym (closed_form s (cell_labelled s cs) i a (omega (arith, same_l)) (omega (arith, same_d)))
      ∙ same_coordinate i a h g
      ∙ closed_form r (cell_labelled r cr) i a h g
      )

  same_label : (j : ℕ) → label s j ≡ label r j
  same_label j = elim (cases_lt j r.d) [
    | inl g ↦ used g
    | inr g ↦ (elim (cases_lt r.d j) [
      | inl f ↦ cs.labels_rest j (omega (arith, same_d)) ∙ sym (cr.labels_rest j f)
      | inr f ↦ last (omega arith)
    ])
  ]
    where
      used : j < r.d → label s j ≡ label r j
      used g =
          let a = cs.parted j (omega (arith, same_d)) in
          let b = cr.parted j (omega arith) in
          same_passed r.l (label s j) (label r j) a.0 (omega (arith, a.1, same_l)) b.0 b.1 (λ i h. same_step i j h g)

      last : j ≡ r.d → label s j ≡ label r j
      last f = ap (label s) (f ∙ sym same_d) ∙ cs.last ∙ ap (λ n. n + 1) same_l ∙ sym cr.last ∙ ap (label r) (sym f)

  pub same_cell : s ≡ r
  same_cell = same_record_lem s r same_d same_l
      (ext_get_or (pos 0) s.base r.base (cs.base_long ∙ sym cr.base_long) (λ k h. same_base k))
      (ext_get_or 0 s.labels r.labels (cs.labels_long ∙ sym cr.labels_long) (λ k h. same_label k))
