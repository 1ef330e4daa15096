-- Two passes in one hand: the one that takes, and a reader.
use Rattle.std.proofs.Common.{◌≡◌, ◌≢◌, ℕ, true, true≢false, List, ◌++◌, set, sym, refl, ap, ◌∙◌, subst, ◌⊎◌, inl, inr, ⊎_elim}
use Rattle.std.proofs.lemmas.List.{append-nil}
use Rattle.std.proofs.lemmas.List.Elements.{filter-append}
use mathlib.Core.Option.{some}
use lib.ListN.{get_elem?}
use Rattle.crossbeam_queue.specs.Fifo.{Forks, Learns, Merges}
use Rattle.crossbeam_queue.proofs.Lists.{at_set, at_snoc}
use Rattle.piece_queue.specs.declared.piece.Piece.{Piece}
use Rattle.piece_queue.specs.declared.hand.Hand.{Hand}
use Rattle.piece_queue.specs.Pieces.{Agree, AreNumbered, is_of, of_channel}
use Rattle.piece_queue.specs.Rule.{AreApart, Fits, Keeps, blank, reader, taker, united}
use Rattle.piece_queue.proofs.Chans.{all_last}
use Rattle.piece_queue.proofs.Moves.{Each, apart_set, apart_snoc, each_set}

-- who read which channel before the two came into one hand
was_two : (views : List Hand) (port other : ℕ) (v w : Hand) → get_elem? views other ≡ some w → w.reads ≡ true
    → (j : ℕ) (u : Hand) → get_elem? (set (set views port (united v w)) other blank) j ≡ some u → u.reads ≡ true
    → (k : ℕ) × (t : Hand) × (get_elem? views k ≡ some t) × (t.reads ≡ true) × (t.chan ≡ u.chan) × (((j ≡ port) × (k ≡ other)) ⊎ ((j ≢ other) × (k ≡ j)))
was_two views port other v w at may j u e reads = ⊎_elim
    (λ (x : (j ≡ other) × (blank ≡ u)). absurd (true≢false (sym (ap (λ (y : Hand). y.reads) x.1 ∙ reads))))
    (λ (x : (j ≢ other) × (get_elem? (set views port (united v w)) j ≡ some u)). ⊎_elim
    (λ (y : (j ≡ port) × (united v w ≡ u)). (other, w, at, may, ap (λ (t : Hand). t.chan) y.1, inl (y.0, refl)))
    (λ (y : (j ≢ port) × (get_elem? views j ≡ some u)). (j, u, y.1, reads, refl, inr (x.0, refl)))
    (at_set views port j (united v w) u x.1))
    (at_set (set views port (united v w)) other j blank u e)

apart_two : (views : List Hand) (port other : ℕ) (v w : Hand) → get_elem? views other ≡ some w → w.reads ≡ true → AreApart views → AreApart (set (set views port (united v w)) other blank)
apart_two views port other v w at may h p q a b ea eb ra rb ch =
    let s = was_two views port other v w at may p a ea ra in
    let t = was_two views port other v w at may q b eb rb in
    let one : s.0 ≡ t.0 = h s.0 t.0 s.1 t.1 s.2 t.2 s.3 t.3 (s.4 ∙ (ch ∙ sym t.4)) in
    ⊎_elim
    (λ (x : (p ≡ port) × (s.0 ≡ other)). ⊎_elim
    (λ (y : (q ≡ port) × (t.0 ≡ other)). x.0 ∙ sym y.0)
    (λ (y : (q ≢ other) × (t.0 ≡ q)). absurd (y.0 (sym y.1 ∙ (sym one ∙ x.1))))
    t.5)
    (λ (x : (p ≢ other) × (s.0 ≡ p)). ⊎_elim
    (λ (y : (q ≡ port) × (t.0 ≡ other)). absurd (x.0 (sym x.1 ∙ (one ∙ y.1))))
    (λ (y : (q ≢ other) × (t.0 ≡ q)). sym x.1 ∙ (one ∙ y.1))
    t.5)
    s.5

pub unites : (port : ℕ) (v : Hand) (other : ℕ) (w : Hand) → v.takes ≡ true → w.reads ≡ true → Merges Keeps port v other w (united v w) blank
unites port v other w a b items views h at two at' =
    let both : Hand = united v w in
    let vs : List Hand = set views port both in
    let was : get_elem? views other ≡ some w = ⊎_elim (λ x. absurd (two x.0)) (λ x. x.1) (at_set views port other both w at') in
    let F : ℕ → Hand → Type 0 = Fits h.taking h.opening h.next h.got items in
    let now : Each F vs = each_set F views port both
    (record { takes = λ _. (h.fits port v at).takes a; opens = λ e. absurd (true≢false (sym e)); reads = λ _. (h.fits other w was).reads b })
    (λ j u _ e. h.fits j u e) in
    record {
      taking = h.taking;
      opening = h.opening;
      next = h.next;
      got = h.got;
      fits = each_set F vs other blank
          (record { takes = λ e. absurd (true≢false (sym e)); opens = λ e. absurd (true≢false (sym e)); reads = λ e. absurd (true≢false (sym e)) })
          (λ j u _ e. now j u e);
      apart = apart_two views port other v w was b h.apart;
      fresh = h.fresh;
      numbered = h.numbered;
      full = h.full;
    }

pub divides : (port : ℕ) (v : Hand) → v.takes ≡ true → v.reads ≡ true → Forks Keeps port v (taker v.got) (reader v.chan v.sent)
divides port v a b items views h at =
    let l : Hand = taker v.got in
    let r : Hand = reader v.chan v.sent in
    let vs : List Hand = set views port l in
    let mine = h.fits port v at in
    let F : ℕ → Hand → Type 0 = Fits h.taking h.opening h.next h.got items in
    let old : Each F vs = each_set F views port l
    (record { takes = λ _. mine.takes a; opens = λ e. absurd (true≢false (sym e)); reads = λ e. absurd (true≢false (sym e)) })
    (λ j u _ e. h.fits j u e) in
    record {
      taking = h.taking;
      opening = h.opening;
      next = h.next;
      got = h.got;
      fits = λ j u e. ⊎_elim (λ (x : get_elem? vs j ≡ some u). old j u x)
          (λ (is : r ≡ u). subst (F j) is
          (record { takes = λ t. absurd (true≢false (sym t)); opens = λ t. absurd (true≢false (sym t)); reads = λ _. mine.reads b }))
          (at_snoc vs r u j e);
      apart = apart_snoc vs r
          (λ j u e ru _ is. ⊎_elim
          (λ (x : (j ≡ port) × (l ≡ u)). absurd (true≢false (sym (ap (λ (y : Hand). y.reads) x.1 ∙ ru))))
          (λ (x : (j ≢ port) × (get_elem? views j ≡ some u)). absurd (x.0 (h.apart j port u v x.1 at ru b is)))
          (at_set views port j l u e))
          (apart_set views port v l (λ e. absurd (true≢false (sym e))) at h.apart);
      fresh = h.fresh;
      numbered = h.numbered;
      full = h.full;
    }

agree : (chan : ℕ) (got sent taken items : List Piece) → got ≡ taken → sent ≡ of_channel chan (taken ++ items) → AreNumbered (of_channel chan (taken ++ items)) → Agree chan got sent
agree chan got sent taken items same is all =
    let xs : List Piece = of_channel chan got in
    let ys : List Piece = of_channel chan items in
    let cut : of_channel chan (taken ++ items) ≡ xs ++ ys = filter-append (is_of chan) taken items ∙ ap (λ (g : List Piece). of_channel chan g ++ ys) (sym same) in
    record {
      prefix = (ys, is ∙ cut);
      whole = λ last. sym (is ∙ (cut ∙ (ap (λ (l : List Piece). xs ++ l) (all_last xs ys (subst AreNumbered cut all) last) ∙ append-nil xs)));
    }

pub agrees : (port : ℕ) (v : Hand) → v.takes ≡ true → v.reads ≡ true → Learns Keeps port v (λ items. Agree v.chan v.got v.sent)
agrees port v a b items views h at =
    let mine = h.fits port v at in
    agree v.chan v.got v.sent h.got items (mine.takes a).1 (mine.reads b).1 (h.numbered v.chan)
