-- The list of literals as it grows: what is put at the end is the list's last literal, and a repeated one is passed over as the paper says.
-- Assumes nothing.
use Rattle.std.proofs.Common.{ℕ, ◌+◌, ◌<◌, ◌≤◌, ◌≡◌, Bool, true, false, cond, ◌||◌, List, [], ◌∷◌, ◌++◌, map, length, drop, get_or, eqb, refl, sym, ap, ◌∙◌, arith, length-append, append-nil, drop-cons, add-one}
use mathlib.Core.List.{map-append}
use Rattle.std.proofs.lemmas.List.{drop_all}
use lib.Seq.{append_snoc}
use Rattle.paper.specs.Lists.{any}
use Rattle.paper.specs.Lemma.{Literal, literal_of, same_literal, once_after, hypotheses}
use Rattle.lemma.specs.Steps.{EdgeTable, edge_at}
use Rattle.lemma.specs.declared.rows.Literal.{Literal as Row}
use Rattle.lemma.specs.Rows.{literal_in, literals_of}
use Rattle.lemma.specs.Literals.{once, Opening, Walked}

-- a literal that is put at the end
pub pushed_more : (rows : List Row) {literal : Literal} (row : Row) → literal_in row ≡ literal → literals_of (rows ++ row ∷ []) ≡ literals_of rows ++ literal ∷ []
pushed_more rows row says = rw (map-append literal_in) (ap (λ (last : Literal). literals_of rows ++ last ∷ []) says)

-- what stood earlier counts as a set: the order is of no account
once_same : (one other : List Literal) → ((l : Literal) → any (same_literal l) one ≡ any (same_literal l) other) → (literals : List Literal) → once_after one literals ≡ once_after other literals
once_same one other same [] = refl
once_same one other same (l ∷ literals) =
    rw (same l, once_same one other same literals, once_same (l ∷ one) (l ∷ other) (λ k. ap (λ (b : Bool). same_literal k l || b) (same k)) literals)

any_last : (test : Literal → Bool) (literals : List Literal) (last : Literal) → any test (literals ++ (last ∷ [])) ≡ any test (last ∷ literals)
any_last test [] last = refl
any_last test (l ∷ literals) last = ap (λ (b : Bool). test l || b) (any_last test literals last) ∙ swap (test l) (test last)
  where
    swap : (a b : Bool) → (a || (b || any test literals)) ≡ (b || (a || any test literals))
    swap true true = refl
    swap true false = refl
    swap false true = refl
    swap false false = refl

module _ (e : EdgeTable) (x : ℕ) (path : List ℕ) (i j : ℕ) where
  -- the paper's literals for the path from a step on
  abbrev pub along : (step : ℕ) → List Literal
  along step = map (λ edge. literal_of i edge.guard) (map (edge_at e x) (drop step path))

  -- after so many steps: what stands, with what is still to come, are the hypotheses
  pub record Writing (step : ℕ) (rows : List Row) : Type 0 where
    pub done : literals_of rows ++ once_after (literals_of rows) (along step) ≡ hypotheses i j (map (edge_at e x) path)
    pub most : length rows ≤ step + 1

  pub writing_start : (rows : List Row) → Opening i j rows → Writing 0 rows
  unfolding hypotheses
  writing_start rows opening = record { done = rw opening.same (go (eqb i j)); most = omega (arith, opening.most) }
    where
      go : (b : Bool) → cond b [] (Literal.equal i j ∷ []) ++ once_after (cond b [] (Literal.equal i j ∷ [])) (along 0)
          ≡ once_after [] (cond b [] (Literal.equal i j ∷ []) ++ along 0)
      go true = refl
      go false = refl

  module _ (walked : Walked e x path) where
    module _ (step : ℕ) (inside : step < length path) (rows : List Row) (row : Row) (says : literal_in row ≡ literal_of i (edge_at e x (get_or path step 0)).guard) (so_far : Writing step rows) where
      before : List Literal
      before = literals_of rows

      literal : Literal
      literal = literal_of i (edge_at e x (get_or path step 0)).guard

      along_step : along step ≡ literal ∷ along (step + 1)
      unfolding literal
      along_step = rw (drop-cons path step 0 inside, add-one step)

      -- a literal that stands already is left out, and any other is put at the end
      again : any (same_literal literal) before ≡ true → Writing (step + 1) rows
      unfolding before
      again stood = record { done = ap (λ (rest : List Literal). before ++ rest) (sym left_out) ∙ so_far.done; most = omega (arith, so_far.most) }
        where
          left_out : once_after before (along step) ≡ once_after before (along (step + 1))
          left_out = rw (along_step, stood)

      more : any (same_literal literal) before ≡ false → Writing (step + 1) (rows ++ row ∷ [])
      unfolding before literal
      more fresh =
          record {
            done =
                rw (pushed_more rows row says)
                (append_snoc before literal (once_after (before ++ (literal ∷ [])) (along (step + 1))) ∙ ap (λ (rest : List Literal). before ++ rest) (sym put) ∙ so_far.done);
            most = omega (arith, so_far.most, length-append rows (row ∷ []));
          }
        where
          put : once_after before (along step) ≡ literal ∷ once_after (before ++ (literal ∷ [])) (along (step + 1))
          put =
              rw (along_step, fresh)
              (ap (λ (rest : List Literal). literal ∷ rest)
              (once_same (literal ∷ before) (before ++ (literal ∷ [])) (λ k. sym (any_last (same_literal k) before literal)) (along (step + 1))))

      pub writing_on : Writing (step + 1) (once rows row)
      unfolding before literal
      writing_on = rw says (go (any (same_literal literal) before) refl)
        where
          go : (stood : Bool) → any (same_literal literal) before ≡ stood → Writing (step + 1) (cond stood rows (rows ++ row ∷ []))
          go true stood = again stood
          go false fresh = more fresh

    -- at the end of the path the hypotheses stand, and the conclusion comes last
    pub writing_end : (step : ℕ) → length path ≤ step → (rows : List Row) → Writing step rows
        → (last : Row) → literals_of (rows ++ last ∷ []) ≡ hypotheses i j (map (edge_at e x) path) ++ literal_in last ∷ []
    writing_end step past rows so_far last = pushed_more rows last refl ∙ ap (λ (before : List Literal). before ++ (literal_in last ∷ [])) all_there
      where
        all_there : literals_of rows ≡ hypotheses i j (map (edge_at e x) path)
        all_there =
            let nothing_left : drop step path ≡ [] = drop_all step path past in
            sym (append-nil (literals_of rows)) ∙ rw nothing_left at so_far.done
