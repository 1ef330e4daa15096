-- Each move keeps the rule.
use Rattle.std.proofs.Common.{◌≡◌, ◌≢◌, ℕ, zero, suc, ◌+◌, ◌<◌, ◌≤◌, Bool, true, false, true≢false, ◌==◌, List, [], ◌∷◌, ◌++◌, length, set, sym, refl, ap, ◌∙◌, subst, ⊎_elim, append_assoc, arith}
use mathlib.Core.Option.{some, some-injective, some-ne-none}
use Rattle.std.proofs.lemmas.Option.{none-some}
use lib.ListN.{get_elem?}
use Rattle.crossbeam_queue.specs.Fifo.{Pushes, Pops, Forks}
use Rattle.crossbeam_queue.proofs.Lists.{at_set, at_snoc}
use Rattle.piece_queue.specs.declared.piece.Piece.{Piece}
use Rattle.piece_queue.specs.declared.hand.Hand.{Hand}
use Rattle.piece_queue.specs.Pieces.{AreNumbered, IsNext, NoneIsLast, is_of, of_channel}
use Rattle.piece_queue.specs.Rule.{AreApart, Fits, Follows, Keeps, first, given_on, opener, reader, taken_on, taker}
use Rattle.piece_queue.proofs.Chans.{apart, fits_snoc, from_same, numbered_seam, numbered_snoc, same, seam, snoc_in, snoc_out}

abbrev pub Each : (ℕ → Hand → Type 0) → List Hand → Type 0
Each F views = (port : ℕ) (v : Hand) → get_elem? views port ≡ some v → F port v

pub each_set : (F : ℕ → Hand → Type 0) (views : List Hand) (port : ℕ) (w : Hand) → F port w → ((j : ℕ) (u : Hand) → j ≢ port → get_elem? views j ≡ some u → F j u) → Each F (set views port w)
each_set F views port w mine others j u e = ⊎_elim (λ (x : (j ≡ port) × (w ≡ u)). subst (λ (y : ℕ × Hand). F y.0 y.1) (λ i. (sym x.0 i, x.1 i)) mine)
    (λ (x : (j ≢ port) × (get_elem? views j ≡ some u)). others j u x.0 x.1) (at_set views port j w u e)

only : (a v : Hand) (port : ℕ) → get_elem? (a ∷ []) port ≡ some v → (port ≡ 0) × (a ≡ v)
only a v zero e = (refl, some-injective a v e)
only a v (suc port) e = absurd (some-ne-none v (sym e))

-- a pass that is the new one at the end
at_end : (l : List Hand) (a b : Hand) (j : ℕ) → get_elem? l j ≢ some b → get_elem? (l ++ a ∷ []) j ≡ some b → j ≡ length l
at_end [] a b zero n e = refl
at_end [] a b (suc j) n e = absurd (some-ne-none b (sym e))
at_end (x ∷ xs) a b zero n e = absurd (n e)
at_end (x ∷ xs) a b (suc j) n e = ap suc (at_end xs a b j n e)

-- who read which channel before a pass changed
was_at : (views : List Hand) (port : ℕ) (v w : Hand) → (w.reads ≡ true → (v.reads ≡ true) × (v.chan ≡ w.chan)) → get_elem? views port ≡ some v
    → (j : ℕ) (u : Hand) → get_elem? (set views port w) j ≡ some u → u.reads ≡ true → (t : Hand) × (get_elem? views j ≡ some t) × (t.reads ≡ true) × (t.chan ≡ u.chan)
was_at views port v w keeps at j u e reads = ⊎_elim
    (λ (x : (j ≡ port) × (w ≡ u)). let k = keeps (ap (λ y. y.reads) x.1 ∙ reads) in (v, subst (λ i. get_elem? views i ≡ some v) (sym x.0) at, k.0, k.1 ∙ ap (λ y. y.chan) x.1))
    (λ (x : (j ≢ port) × (get_elem? views j ≡ some u)). (u, x.1, reads, refl))
    (at_set views port j w u e)

pub apart_set : (views : List Hand) (port : ℕ) (v w : Hand) → (w.reads ≡ true → (v.reads ≡ true) × (v.chan ≡ w.chan)) → get_elem? views port ≡ some v → AreApart views → AreApart (set views port w)
apart_set views port v w keeps at h p q a b ea eb ra rb ch =
    let s = was_at views port v w keeps at p a ea ra in
    let t = was_at views port v w keeps at q b eb rb in
    h p q s.0 t.0 s.1 t.1 s.2 t.2 (s.3 ∙ (ch ∙ sym t.3))

pub apart_snoc : (views : List Hand) (r : Hand) → ((j : ℕ) (u : Hand) → get_elem? views j ≡ some u → u.reads ≡ true → r.reads ≡ true → u.chan ≢ r.chan) → AreApart views → AreApart (views ++ r ∷ [])
apart_snoc views r fresh h p q a b ea eb ra rb ch = ⊎_elim
    (λ (x : get_elem? views p ≡ some a). ⊎_elim
    (λ (y : get_elem? views q ≡ some b). h p q a b x y ra rb ch)
    (λ (y : r ≡ b). absurd (fresh p a x ra (ap (λ t. t.reads) y ∙ rb) (ch ∙ sym (ap (λ t. t.chan) y))))
    (at_snoc views r b q eb))
    (λ (x : r ≡ a). ⊎_elim
    (λ (y : get_elem? views q ≡ some b). absurd (fresh q b y rb (ap (λ t. t.reads) x ∙ ra) (sym ch ∙ sym (ap (λ t. t.chan) x))))
    (λ (y : r ≡ b). let new : (j : ℕ) (u : Hand) → r ≡ u → get_elem? (views ++ r ∷ []) j ≡ some u → u.reads ≡ true → j ≡ length views =
    λ j u is e reads. at_end views r u j (λ old. fresh j u old reads (ap (λ t. t.reads) is ∙ reads) (sym (ap (λ t. t.chan) is))) e in
    new p a x ea ra ∙ sym (new q b y eb rb))
    (at_snoc views r b q eb))
    (at_snoc views r a p ea)

pub begins : Keeps [] (first ∷ [])
begins = record {
  taking = 0;
  opening = 0;
  next = 0;
  got = [];
  fits = λ port v e. let is = only first v port e in record {
    takes = λ _. (is.0, ap (λ t. t.got) (sym is.1));
    opens = λ _. (is.0, ap (λ t. t.next) (sym is.1));
    reads = λ r. absurd (true≢false (sym r ∙ ap (λ t. t.reads) (sym is.1)));
  };
  apart = λ p q v w ep eq _ _ _. (only first v p ep).0 ∙ sym (only first w q eq).0;
  fresh = λ _ _. refl;
  numbered = λ _ k x e. absurd (none-some x e);
  full = λ k x e. absurd (none-some x e);
}

-- the pieces of a channel after a push of another's, or of its own
numbered_add : (c : ℕ) (x : Piece) (chan : ℕ) (sent got items : List Piece) → x.chan ≡ chan → x.number ≡ length sent → NoneIsLast sent → sent ≡ of_channel chan (got ++ items)
    → AreNumbered (of_channel c (got ++ items)) → (b : Bool) → is_of c x ≡ b → AreNumbered (of_channel c (got ++ (items ++ x ∷ [])))
numbered_add c x chan sent got items of number unended is all false e = subst AreNumbered (sym (snoc_out c x got items e)) all
numbered_add c x chan sent got items of number unended is all true e =
    let here : sent ≡ of_channel c (got ++ items) = is ∙ ap (λ k. of_channel k (got ++ items)) (sym of ∙ from_same x.chan c e) in
    subst AreNumbered (sym (snoc_in c x got items e)) (numbered_snoc (of_channel c (got ++ items)) x all (subst NoneIsLast here unended) (number ∙ ap length here))

pub adds : (n port : ℕ) (v : Hand) (x : Piece) → v.reads ≡ true → Follows v x → Pushes Keeps n port v x (λ w. w ≡ given_on v x)
adds n port v x may follows items views room h at =
    let w : Hand = given_on v x in
    let mine = h.fits port v at in
    let was = mine.reads may in (
      w,
      record {
        taking = h.taking;
        opening = h.opening;
        next = h.next;
        got = h.got;
        fits = each_set (Fits h.taking h.opening h.next h.got (items ++ x ∷ [])) views port w
            (record {
              takes = mine.takes;
              opens = mine.opens;
              reads = λ _. (was.0, ap (λ l. l ++ x ∷ []) was.1 ∙ sym (snoc_in v.chan x h.got items (same x.chan v.chan follows.chan)));
            })
            (λ j u other e. let old = h.fits j u e in record {
              takes = old.takes;
              opens = old.opens;
              reads = λ r. (
                (old.reads r).0,
                (old.reads r).1 ∙ sym (snoc_out u.chan x h.got items (apart x.chan u.chan (λ is. other (h.apart j port u v e at r may (sym is ∙ follows.chan))))),
              );
            });
        apart = apart_set views port v w (λ r. (r, refl)) at h.apart;
        fresh = λ c low. snoc_out c x h.got items (apart x.chan c (λ is. omega (arith, is, follows.chan, was.0, low))) ∙ h.fresh c low;
        numbered = λ c. numbered_add c x v.chan v.sent h.got items follows.chan follows.number follows.unended was.1 (h.numbered c) (is_of c x) refl;
        full = fits_snoc items x h.full follows.fits;
      },
      refl,
    )

pub takes : (port : ℕ) (v : Hand) → v.takes ≡ true → Pops Keeps port v (λ x w. (w ≡ taken_on v x) × IsNext v.got x)
takes port v may x items views h at =
    let w : Hand = taken_on v x in
    let mine = h.fits port v at in
    let was = mine.takes may in
    let shift : (c : ℕ) → of_channel c ((h.got ++ x ∷ []) ++ items) ≡ of_channel c (h.got ++ x ∷ items) = λ c. ap (of_channel c) (append_assoc h.got (x ∷ []) items) in
    let next = numbered_seam (of_channel x.chan h.got) x (of_channel x.chan items) (subst AreNumbered (seam x h.got items) (h.numbered x.chan)) in (
      w,
      record {
        taking = h.taking;
        opening = h.opening;
        next = h.next;
        got = h.got ++ x ∷ [];
        fits = each_set (Fits h.taking h.opening h.next (h.got ++ x ∷ []) items) views port w
            (record {
              takes = λ _. (was.0, ap (λ l. l ++ x ∷ []) was.1);
              opens = mine.opens;
              reads = λ r. ((mine.reads r).0, (mine.reads r).1 ∙ sym (shift v.chan));
            })
            (λ j u other e. let old = h.fits j u e in record {
              takes = λ r. absurd (other ((old.takes r).0 ∙ sym was.0));
              opens = old.opens;
              reads = λ r. ((old.reads r).0, (old.reads r).1 ∙ sym (shift u.chan));
            });
        apart = apart_set views port v w (λ r. (r, refl)) at h.apart;
        fresh = λ c low. shift c ∙ h.fresh c low;
        numbered = λ c. subst AreNumbered (sym (shift c)) (h.numbered c);
        full = λ k y e. h.full (suc k) y e;
      },
      (
        refl,
        record {
          number = next.0 ∙ ap (λ g. length (of_channel x.chan g)) (sym was.1);
          unended = subst (λ g. NoneIsLast (of_channel x.chan g)) (sym was.1) next.1;
          fits = h.full 0 x refl;
        },
      ),
    )

pub parts : (port : ℕ) (v : Hand) → v.takes ≡ true → v.opens ≡ true → Forks Keeps port v (opener v.next) (taker v.got)
parts port v a b items views h at =
    let l : Hand = opener v.next in
    let r : Hand = taker v.got in
    let vs : List Hand = set views port l in
    let mine = h.fits port v at in
    let Old : ℕ → Hand → Type 0 = λ j u. (u.takes ≢ true) × Fits (length vs) port h.next h.got items j u in
    let old : Each Old vs = each_set Old views port l
    ((λ e. true≢false (sym e)), record { takes = λ e. absurd (true≢false (sym e)); opens = λ _. (refl, (mine.opens b).1); reads = λ e. absurd (true≢false (sym e)) })
    (λ j u other e. let was = h.fits j u e in
    let none : u.takes ≢ true = λ t. other ((was.takes t).0 ∙ sym (mine.takes a).0) in
    (none, record { takes = λ t. absurd (none t); opens = λ t. absurd (other ((was.opens t).0 ∙ sym (mine.opens b).0)); reads = was.reads })) in
    record {
      taking = length vs;
      opening = port;
      next = h.next;
      got = h.got;
      fits = λ j u e. ⊎_elim (λ (x : get_elem? vs j ≡ some u). (old j u x).1)
          (λ (is : r ≡ u). record {
            takes = λ t. (at_end vs r u j (λ x. (old j u x).0 t) e, ap (λ y. y.got) (sym is) ∙ (mine.takes a).1);
            opens = λ t. absurd (true≢false (sym (ap (λ y. y.opens) is ∙ t)));
            reads = λ t. absurd (true≢false (sym (ap (λ y. y.reads) is ∙ t)));
          })
          (at_snoc vs r u j e);
      apart = apart_snoc vs r (λ j u e ru rr. absurd (true≢false (sym rr))) (apart_set views port v l (λ e. absurd (true≢false (sym e))) at h.apart);
      fresh = h.fresh;
      numbered = h.numbered;
      full = h.full;
    }

pub opens : (port : ℕ) (v : Hand) → v.opens ≡ true → Forks Keeps port v (opener (v.next + 1)) (reader v.next [])
opens port v may items views h at =
    let l : Hand = opener (v.next + 1) in
    let r : Hand = reader v.next [] in
    let vs : List Hand = set views port l in
    let mine = h.fits port v at in
    let is_next = (mine.opens may).1 in
    let Old : ℕ → Hand → Type 0 = λ j u. (u.reads ≡ true → u.chan < h.next) × Fits h.taking port (h.next + 1) h.got items j u in
    let old : Each Old vs = each_set Old views port l
    ((λ e. absurd (true≢false (sym e))), record { takes = λ e. absurd (true≢false (sym e)); opens = λ _. (refl, ap (λ k. k + 1) is_next); reads = λ e. absurd (true≢false (sym e)) })
    (λ j u other e. let was = h.fits j u e in
    ((λ t. (was.reads t).0), record { takes = was.takes; opens = λ t. absurd (other ((was.opens t).0 ∙ sym (mine.opens may).0)); reads = λ t. let k = (was.reads t).0 in (omega (arith, k), (was.reads t).1) })) in
    record {
      taking = h.taking;
      opening = port;
      next = h.next + 1;
      got = h.got;
      fits = λ j u e. ⊎_elim (λ (x : get_elem? vs j ≡ some u). (old j u x).1)
          (λ (is : r ≡ u). let chan : u.chan ≡ h.next = ap (λ y. y.chan) (sym is) ∙ is_next in record {
            takes = λ t. absurd (true≢false (sym (ap (λ y. y.takes) is ∙ t)));
            opens = λ t. absurd (true≢false (sym (ap (λ y. y.opens) is ∙ t)));
            reads = λ _. (omega (arith, chan), ap (λ y. y.sent) (sym is) ∙ sym (h.fresh u.chan (omega (arith, chan))));
          })
          (at_snoc vs r u j e);
      apart = apart_snoc vs r (λ j u e ru rr is. let k = (old j u e).0 ru in omega (arith, k, is, is_next)) (apart_set views port v l (λ e. absurd (true≢false (sym e))) at h.apart);
      fresh = λ c low. h.fresh c (omega (arith, low));
      numbered = h.numbered;
      full = h.full;
    }
