-- A walk along a chain, and the chains after a key is added.
use Rattle.std.proofs.Common.{◌≡◌, ℕ, suc, ◌+◌, ◌-◌, ◌<◌, ◌≤◌, eqb, List, [], ◌∷◌, ◌++◌, length, get_or, set, replicate, Some, None, sym, refl, ap, ◌∙◌, subst, inl, inr, add-one, arith}
use Rattle.std.proofs.lemmas.Slice.Eq.{bytes_eq-Decides}
use Rattle.std.proofs.lemmas.List.{length_push, get_or_push, get_or_read, get_or_append_left, get_or-set_same, get_or-set_other, get_or-replicate}
use Rattle.std.proofs.lemmas.Bool.{cases_eq, cases_lt, cond-true, cond-false, eqb-true, eq-eqb, ne_eqb}
use Rattle.index.specs.Find.{last, find}
use Rattle.index.specs.Chains.{bucket, begins, mark, Headed, Linked}
use Rattle.index.proofs.Lasts.{last_here, last_back, last_none, last_le, last_some, last_skips, last_front, last_push}
use Rattle.index.proofs.Finds.{same, same_from, same_not, find_is}

-- on the way from the head of the chain of d, at stands for what is still to be seen: every key equal to d that was passed is the last one's equal
pub record Walk (ks : List (List ℕ)) (d : List ℕ) (at : ℕ) : Type 0 where
  pub within : at ≤ length ks
  pub left : last (same ks d) at ≡ last (same ks d) (length ks)
  pub alike : (m : ℕ) → at ≡ suc m → bucket (get_or ks m []) ≡ bucket d

-- to go back to the last key that begins as d does passes none that equals it
skips : (ks : List (List ℕ)) (d : List ℕ) (n : ℕ) → last (same ks d) n ≡ last (same ks d) (mark (last (begins ks (bucket d)) n))
skips ks d n = last_skips (same ks d) (begins ks (bucket d)) n (λ i l t. eq-eqb (bucket (get_or ks i [])) (bucket d) (ap bucket ((bytes_eq-Decides (get_or ks i []) d).0 t)))

leads : (ks : List (List ℕ)) (d : List ℕ) (n at : ℕ) → n ≤ length ks → last (same ks d) n ≡ last (same ks d) (length ks) → at ≡ mark (last (begins ks (bucket d)) n) → Walk ks d at
leads ks d n at l e h =
    record {
      within = let a = last_le (begins ks (bucket d)) n in omega arith;
      left = ap (last (same ks d)) h ∙ sym (skips ks d n) ∙ e;
      alike = λ m z. eqb-true (bucket (get_or ks m [])) (bucket d) (last_some (begins ks (bucket d)) n m (sym h ∙ z)).1;
    }

pub walk_starts : (ks : List (List ℕ)) (heads : List ℕ) (d : List ℕ) (k at : ℕ) → Headed ks heads → length heads ≡ 65536 → k ≡ bucket d → k < 65536 → at ≡ get_or heads k at → Walk ks d at
walk_starts ks heads d k at h wide e b r =
    leads ks d (length ks) at (omega arith) refl (get_or_read heads k at (omega arith) r 0 ∙ h k b ∙ ap (λ k. mark (last (begins ks k) (length ks))) e)

-- a walk that is not at its end stands at the key numbered one less
at_key : (ks : List (List ℕ)) (d : List ℕ) (at : ℕ) → 0 < at → Walk ks d at → Walk ks d (suc (at - 1))
at_key ks d at s w = let e : at ≡ suc (at - 1) = omega arith in subst (λ k. Walk ks d k) e w

-- what stands in `older` at that key
pub link_read : (ks : List (List ℕ)) (older : List ℕ) (d : List ℕ) (at next : ℕ) → Linked ks older → length older ≡ length ks → 0 < at → Walk ks d at → next ≡ get_or older (at - 1) next → next ≡ mark (last (begins ks (bucket d)) (at - 1))
link_read ks older d at next h level s w r =
    let a = w.within in
    get_or_read older (at - 1) next (omega arith) r 0 ∙ h (at - 1) (omega arith) ∙ ap (λ k. mark (last (begins ks k) (at - 1))) ((at_key ks d at s w).alike (at - 1) refl)

pub walk_again : (ks : List (List ℕ)) (key d : List ℕ) (at next : ℕ) → 0 < at → Walk ks d at → key ≡ get_or ks (at - 1) key → (key ≡ d → ⊥) → next ≡ mark (last (begins ks (bucket d)) (at - 1)) → Walk ks d next
walk_again ks key d at next s w k ne e =
    let a = w.within in
    let r = get_or_read ks (at - 1) key (omega arith) k [] in
    leads ks d (at - 1) next (omega arith) (sym (last_back (same ks d) (at - 1) (same_not (get_or ks (at - 1) []) d (λ z. ne (r ∙ z)))) ∙ (at_key ks d at s w).left) e

pub walk_less : (ks : List (List ℕ)) (k at next : ℕ) → 0 < at → next ≡ mark (last (begins ks k) (at - 1)) → next < at
walk_less ks k at next s e = let b = last_le (begins ks k) (at - 1) in omega arith

pub walk_found : (ks : List (List ℕ)) (key d : List ℕ) (at : ℕ) → 0 < at → Walk ks d at → key ≡ get_or ks (at - 1) key → key ≡ d → Some (at - 1) ≡ find ks d
walk_found ks key d at s w k e =
    let a = w.within in
    let r = get_or_read ks (at - 1) key (omega arith) k [] in
    sym (find_is ks d ∙ sym (at_key ks d at s w).left ∙ last_here (same ks d) (at - 1) (same_from _ _ (sym r ∙ e)))

pub walk_ends : (ks : List (List ℕ)) (d : List ℕ) (at : ℕ) → Walk ks d at → at ≡ 0 → None ≡ find ks d
walk_ends ks d at w e = sym (find_is ks d ∙ sym w.left ∙ ap (last (same ks d)) e ∙ last_none (same ks d))

-- Before any key is added.

pub headed_none : (ks : List (List ℕ)) (heads : List ℕ) (n : ℕ) → ks ≡ [] → heads ≡ replicate n 0 → 65536 ≤ n → Headed ks heads
headed_none ks heads n e h l k b =
    ap (λ xs. get_or xs k 0) h ∙ get_or-replicate n k 0 0 (omega arith) ∙ sym (ap mark (ap (λ xs. last (begins ks k) (length xs)) e ∙ last_none (begins ks k)))

pub linked_none : (ks : List (List ℕ)) (older : List ℕ) → ks ≡ [] → Linked ks older
linked_none ks older e n l = absurd (let a = ap length e in omega arith)

-- After a key is added.

pub headed_push : (ks : List (List ℕ)) (heads : List ℕ) (d : List ℕ) → Headed ks heads → bucket d < length heads → Headed (ks ++ d ∷ []) (set heads (bucket d) (length ks + 1))
headed_push ks heads d h l k b = elim (cases_eq k (bucket d)) [ inl e ↦ here e | inr e ↦ other e ] where
  here : k ≡ bucket d → get_or (set heads (bucket d) (length ks + 1)) k 0 ≡ mark (last (begins (ks ++ d ∷ []) k) (length (ks ++ d ∷ [])))
  here e =
      ap (λ i. get_or (set heads (bucket d) (length ks + 1)) i 0) e ∙ get_or-set_same heads (bucket d) (length ks + 1) 0 l ∙ add-one (length ks) ∙ sym (ap mark (last_push (λ x. eqb (bucket x) k) ks d ∙ cond-true (eqb (bucket d) k) _ _ (eq-eqb (bucket d) k (sym e))))

  other : (k ≡ bucket d → ⊥) → get_or (set heads (bucket d) (length ks + 1)) k 0 ≡ mark (last (begins (ks ++ d ∷ []) k) (length (ks ++ d ∷ [])))
  other e =
      get_or-set_other heads (bucket d) k (length ks + 1) 0 e ∙ h k b ∙ sym (ap mark (last_push (λ x. eqb (bucket x) k) ks d ∙ cond-false (eqb (bucket d) k) _ _ (ne_eqb (bucket d) k (λ z. e (sym z)))))

pub linked_push : (ks : List (List ℕ)) (heads older : List ℕ) (d : List ℕ) (x : ℕ) → Headed ks heads → Linked ks older → bucket d < 65536 → length older ≡ length ks → x ≡ get_or heads (bucket d) 0 → Linked (ks ++ d ∷ []) (older ++ x ∷ [])
linked_push ks heads older d x h k b level e n l = elim (cases_lt n (length ks)) [ inl s ↦ front s | inr s ↦ new (let a = length_push ks d in omega arith) ] where
  front : n < length ks → get_or (older ++ x ∷ []) n 0 ≡ mark (last (begins (ks ++ d ∷ []) (bucket (get_or (ks ++ d ∷ []) n []))) n)
  front s =
      get_or_append_left older (x ∷ []) 0 n (omega arith) ∙ k n s ∙ sym (ap mark (last_front (λ y. eqb (bucket y) (bucket (get_or ks n []))) ks d n (omega arith))) ∙ ap (λ y. mark (last (begins (ks ++ d ∷ []) (bucket y)) n)) (sym (get_or_append_left ks (d ∷ []) [] n s))

  new : length ks ≡ n → get_or (older ++ x ∷ []) n 0 ≡ mark (last (begins (ks ++ d ∷ []) (bucket (get_or (ks ++ d ∷ []) n []))) n)
  new s =
      get_or_push older x 0 n (omega arith) ∙ e ∙ h (bucket d) b ∙ ap (λ i. mark (last (begins ks (bucket d)) i)) s ∙ sym (ap mark (last_front (λ y. eqb (bucket y) (bucket d)) ks d n (omega arith))) ∙ ap (λ y. mark (last (begins (ks ++ d ∷ []) (bucket y)) n)) (sym (get_or_push ks d [] n s))

pub headed_pushed : (ks now' : List (List ℕ)) (heads : List ℕ) (d : List ℕ) (at n : ℕ) → Headed ks heads → now' ≡ ks ++ d ∷ [] → at ≡ bucket d → n ≡ length ks → at < length heads → Headed now' (set heads at (n + 1))
headed_pushed ks now' heads d at n h e a l b = rw (e, a, l) (headed_push ks heads d h (omega arith))

pub linked_pushed : (ks now' : List (List ℕ)) (heads older after : List ℕ) (d : List ℕ) (at x : ℕ) → Headed ks heads → Linked ks older → now' ≡ ks ++ d ∷ [] → after ≡ older ++ x ∷ [] → at ≡ bucket d → at < 65536 → length heads ≡ 65536 → length older ≡ length ks → x ≡ get_or heads at x → Linked now' after
linked_pushed ks now' heads older after d at x h k e f a b wide level g =
    rw (e, f) (linked_push ks heads older d x h k (omega arith) level (get_or_read heads at x (omega arith) g 0 ∙ ap (λ i. get_or heads i 0) a))
