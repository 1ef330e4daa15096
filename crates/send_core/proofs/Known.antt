-- What is known of messages: each with a sender that was said of it, and each that is due is known.
use Rattle.std.proofs.Common.{◌≡◌, ◌⊎◌, ℕ, zero, suc, ◌<◌, List, [], ◌∷◌, ◌++◌, length, get_or, set, take, drop, insert, filter, position, cond, eqb, Bool, true, false, not, Option, Some, None, refl, sym, ap, ◌∙◌, subst, inl, inr, ⊎_elim, arith, append-nil, take-append-drop, eqb-true, eq-eqb}
use Rattle.std.specs.Prelude.{◌||◌, ◌==◌, if◌then◌else◌, nat_le, slice_get}
use Rattle.std.specs.List.{list_any}
use Rattle.std.proofs.lemmas.Bool.{or_cases, or_left, or_right}
use Rattle.std.proofs.lemmas.List.Folds.{list_any-append, list_any_at}
use Rattle.std.proofs.lemmas.List.Quantifiers.{position-Some}
use Rattle.std.proofs.lemmas.Option.{slice_get-get_or}
use Rattle.retry_schedule.specs.Due.{added, before, first_due, is_due, moved, put, removed}
use Rattle.send_known.specs.declared.known.Known.{Known}
use Rattle.send_known.specs.declared.messages.Messages.{Messages}
use Rattle.send_known.specs.Known as known
use Rattle.send_known.specs.Messages as messages
use Rattle.call_fs.specs.Maps.{put as put_at}
use Rattle.send_core.proofs.Born.{Born, born_forgotten, born_learned, born_local, born_put_off, born_remote}
use Rattle.send_core.proofs.Lists.{none_passes}

-- Whether an element of a list passes

any_set : {X : Type 0} (p : X → Bool) (xs : List X) (i : ℕ) (y d : X) → p y ≡ p (get_or xs i d) → list_any p (set xs i y) ≡ list_any p xs
any_set p [] i y d e = refl
any_set p (x ∷ xs) zero y d e = ap (λ b. b || list_any p xs) e
any_set p (x ∷ xs) (suc i) y d e = ap (λ b. p x || b) (any_set p xs i y d e)

any_among : {X : Type 0} (p : X → Bool) (xs ys : List X) (k : X) → (p k ≡ true) ⊎ (list_any p (xs ++ ys) ≡ true) → list_any p (xs ++ k ∷ ys) ≡ true
any_among p [] ys k h = ⊎_elim (λ e. or_left (p k) (list_any p ys) e) (λ e. or_right (p k) (list_any p ys) e) h
any_among p (x ∷ xs) ys k h = ⊎_elim
    (λ e. or_right (p x) (list_any p (xs ++ k ∷ ys)) (any_among p xs ys k (inl e)))
    (λ e. ⊎_elim
    (λ here. or_left (p x) (list_any p (xs ++ k ∷ ys)) here)
    (λ there. or_right (p x) (list_any p (xs ++ k ∷ ys)) (any_among p xs ys k (inr there)))
    (or_cases (p x) (list_any p (xs ++ ys)) e))
    h

any_filtered : {X : Type 0} (p t : X → Bool) (xs : List X) → list_any p (filter t xs) ≡ true → list_any p xs ≡ true
any_filtered p t [] h = h
any_filtered p t (x ∷ xs) h = by (t x) h (any_filtered p t xs) where
  by : (b : Bool) → list_any p (cond b (x ∷ filter t xs) (filter t xs)) ≡ true → (list_any p (filter t xs) ≡ true → list_any p xs ≡ true) → list_any p (x ∷ xs) ≡ true
  by true e f = ⊎_elim (λ here. or_left (p x) (list_any p xs) here) (λ there. or_right (p x) (list_any p xs) (f there)) (or_cases (p x) (list_any p (filter t xs)) e)
  by false e f = or_right (p x) (list_any p xs) (f e)

-- Known messages

place_is : {X : Type 0} (p : X → Bool) (xs : List X) (i : ℕ) (d : X) → position p xs ≡ Some i → (i < length xs) × (p (get_or xs i d) ≡ true)
place_is p xs i d e = let w = position-Some p xs i d e in (w.0, w.1)

known_learned_at : (m : ℕ) (k : Known) (ks : List Known) (o : Option ℕ) → position (known.is_from k.n) ks ≡ o → (m ≡ k.n) ⊎ (known.is_known m ks ≡ true) → known.is_known m (known.learned_at o k ks) ≡ true
known_learned_at m k ks None e h = any_among (known.is_of m) ks [] k
    (⊎_elim (λ same. inl (eq-eqb k.n m (sym same))) (λ is. inr (ap (λ (t : List Known). list_any (known.is_of m) t) (append-nil ks) ∙ is)) h)
known_learned_at m k ks (Some i) e h = by (known.is_of k.n (get_or ks i k)) refl where
  inside : i < length ks
  inside = (place_is (known.is_from k.n) ks i k e).0

  by : (b : Bool) → known.is_of k.n (get_or ks i k) ≡ b → known.is_known m (if b then set ks i k else insert ks i k) ≡ true
  by true f =
      let same : (get_or ks i k).n ≡ k.n = eqb-true (get_or ks i k).n k.n f in
      any_set (known.is_of m) ks i k k (ap (λ (n : ℕ). eqb n m) (sym same))
      ∙ ⊎_elim (λ it. list_any_at (known.is_of m) ks i k inside (eq-eqb (get_or ks i k).n m (same ∙ sym it))) (λ is. is) h
  by false f = any_among (known.is_of m) (take i ks) (drop i ks) k
      (⊎_elim (λ it. inl (eq-eqb k.n m (sym it))) (λ is. inr (ap (λ (t : List Known). list_any (known.is_of m) t) (take-append-drop i ks) ∙ is)) h)

known_learned : (m : ℕ) (k : Known) (ks : List Known) → (m ≡ k.n) ⊎ (known.is_known m ks ≡ true) → known.is_known m (known.learned k ks) ≡ true
known_learned m k ks h = known_learned_at m k ks (position (known.is_from k.n) ks) refl h

known_after : (m n : ℕ) (ks : List Known) → (m ≡ n → ⊥) → known.is_known m ks ≡ true → known.is_known m (known.forgotten n ks) ≡ true
known_after m n [] ne h = h
known_after m n (k ∷ ks) ne h = by (k.n == n) refl (known_after m n ks ne) where
  by : (b : Bool) → (k.n == n) ≡ b → (known.is_known m ks ≡ true → known.is_known m (known.forgotten n ks) ≡ true)
      → known.is_known m (cond (not b) (k ∷ known.forgotten n ks) (known.forgotten n ks)) ≡ true
  by true e f = ⊎_elim
      (λ here. absurd (ne (sym (eqb-true k.n m here) ∙ eqb-true k.n n e)))
      (λ there. f there)
      (or_cases (k.n == m) (known.is_known m ks) h)
  by false e f = ⊎_elim
      (λ here. or_left (k.n == m) (known.is_known m (known.forgotten n ks)) here)
      (λ there. or_right (k.n == m) (known.is_known m (known.forgotten n ks)) (f there))
      (or_cases (k.n == m) (known.is_known m ks) h)

-- Due messages

due_left : (m n : ℕ) (es : List (ℕ × ℕ)) → is_due m (removed n es) ≡ true → (is_due m es ≡ true) × (m ≡ n → ⊥)
due_left m n [] h = absurd (cc)
due_left m n (e ∷ es) h = by (e.1 == n) refl h (due_left m n es) where
  by : (b : Bool) → (e.1 == n) ≡ b → is_due m (cond (not b) (e ∷ removed n es) (removed n es)) ≡ true
      → (is_due m (removed n es) ≡ true → (is_due m es ≡ true) × (m ≡ n → ⊥)) → (is_due m (e ∷ es) ≡ true) × (m ≡ n → ⊥)
  by true f g more = let w = more g in (or_right (e.1 == m) (is_due m es) w.0, w.1)
  by false f g more = ⊎_elim
      (λ here. (or_left (e.1 == m) (is_due m es) here, λ same. let bad : (e.1 == n) ≡ true = eq-eqb e.1 n (eqb-true e.1 m here ∙ same) in absurd (cc (sym f ∙ bad))))
      (λ there. let w = more there in (or_right (e.1 == m) (is_due m es) w.0, w.1))
      (or_cases (e.1 == m) (is_due m (removed n es)) g)

due_added : (m : ℕ) (e : ℕ × ℕ) (es : List (ℕ × ℕ)) → is_due m (added e es) ≡ true → (m ≡ e.1) ⊎ (is_due m es ≡ true)
due_added m e es h =
    let low : List (ℕ × ℕ) = filter (λ o. before o e) es in
    let high : List (ℕ × ℕ) = filter (λ o. before e o) es in
    ⊎_elim
    (λ in_low. inr (any_filtered (λ (x : ℕ × ℕ). x.1 == m) (λ o. before o e) es in_low))
    (λ rest. ⊎_elim
    (λ it. inl (sym (eqb-true e.1 m it)))
    (λ in_high. inr (any_filtered (λ (x : ℕ × ℕ). x.1 == m) (λ o. before e o) es in_high))
    (or_cases (e.1 == m) (is_due m high) rest))
    (or_cases (is_due m low) (is_due m (e ∷ high)) (sym (list_any-append (λ (x : ℕ × ℕ). x.1 == m) low (e ∷ high)) ∙ h))

due_put : (m : ℕ) (e : ℕ × ℕ) (es : List (ℕ × ℕ)) → is_due m (put e es) ≡ true → (m ≡ e.1) ⊎ (is_due m es ≡ true)
due_put m e es h = ⊎_elim (λ it. inl it) (λ is. inr (due_left m e.1 es is).0) (due_added m e (removed e.1 es) h)

due_moved : (m : ℕ) (e : ℕ × ℕ) (es : List (ℕ × ℕ)) → is_due m (moved e es) ≡ true → is_due m es ≡ true
due_moved m e es h = by (is_due e.1 es) refl h where
  by : (b : Bool) → is_due e.1 es ≡ b → is_due m (if b then put e es else es) ≡ true → is_due m es ≡ true
  by true f g = ⊎_elim (λ it. ap (λ (n : ℕ). is_due n es) it ∙ f) (λ is. is) (due_put m e es g)
  by false f g = g

pub first_is_due : (now : ℕ) (es : List (ℕ × ℕ)) (e : ℕ × ℕ) → first_due now es ≡ Some e → is_due e.1 es ≡ true
first_is_due now [] e h = absurd (cc)
first_is_due now (x ∷ es) e h = by (nat_le x.0 now) h where
  by : (b : Bool) → ◌≡◌ {A = Option (ℕ × ℕ)} (if b then Some x else None) (Some e) → is_due e.1 (x ∷ es) ≡ true
  by true f = let same : x ≡ e = cc in or_left (x.1 == e.1) (is_due e.1 es) (eq-eqb x.1 e.1 (ap (λ (y : ℕ × ℕ). y.1) same))
  by false f = absurd (cc)

-- Messages

abbrev pub Owed : List (ℕ × ℕ) → List Known → Type 0
Owed es ks = (m : ℕ) → is_due m es ≡ true → known.is_known m ks ≡ true

module _ (S : ℕ → List ℕ → Type 0) where
  abbrev pub Each : List Known → Type 0
  Each [] = Unit {0}
  Each (k ∷ ks) = S k.n k.sender × Each ks

  -- by the births that are told
  abbrev pub Sound : (ℕ → ℕ) → Messages → Type 0
  Sound of m = Each m.known × Owed m.local m.known × Owed m.remote m.known × Born of m.known

  each_join : (xs ys : List Known) → Each xs → Each ys → Each (xs ++ ys)
  each_join [] ys p q = q
  each_join (k ∷ xs) ys p q = (p.0, each_join xs ys p.1 q)

  each_take : (i : ℕ) (xs : List Known) → Each xs → Each (take i xs)
  each_take zero [] p = tt
  each_take zero (k ∷ xs) p = tt
  each_take (suc i) [] p = tt
  each_take (suc i) (k ∷ xs) p = (p.0, each_take i xs p.1)

  each_drop : (i : ℕ) (xs : List Known) → Each xs → Each (drop i xs)
  each_drop zero [] p = tt
  each_drop zero (k ∷ xs) p = p
  each_drop (suc i) [] p = tt
  each_drop (suc i) (k ∷ xs) p = each_drop i xs p.1

  each_set : (xs : List Known) (i : ℕ) (k : Known) → S k.n k.sender → Each xs → Each (set xs i k)
  each_set [] i k s p = tt
  each_set (x ∷ xs) zero k s p = (s, p.1)
  each_set (x ∷ xs) (suc i) k s p = (p.0, each_set xs i k s p.1)

  each_get : (xs : List Known) (i : ℕ) (d : Known) → i < length xs → Each xs → S (get_or xs i d).n (get_or xs i d).sender
  each_get [] i d lt p = absurd (omega arith)
  each_get (x ∷ xs) zero d lt p = p.0
  each_get (x ∷ xs) (suc i) d lt p = each_get xs i d (omega arith) p.1

  each_filter : (t : Known → Bool) (xs : List Known) → Each xs → Each (filter t xs)
  each_filter t [] p = tt
  each_filter t (x ∷ xs) p = by (t x) (each_filter t xs p.1) where
    by : (b : Bool) → Each (filter t xs) → Each (cond b (x ∷ filter t xs) (filter t xs))
    by true q = (p.0, q)
    by false q = q

  each_learned_at : (k : Known) (ks : List Known) (o : Option ℕ) → S k.n k.sender → Each ks → Each (known.learned_at o k ks)
  each_learned_at k ks None s p = each_join ks (k ∷ []) p (s, tt)
  each_learned_at k ks (Some i) s p = by (known.is_of k.n (get_or ks i k)) where
    by : (b : Bool) → Each (if b then set ks i k else insert ks i k)
    by true = each_set ks i k s p
    by false = each_join (take i ks) (k ∷ drop i ks) (each_take i ks p) (s, each_drop i ks p)

  owed_put_if : (b : Bool) (e : ℕ × ℕ) (k : Known) (es : List (ℕ × ℕ)) (ks : List Known) → e.1 ≡ k.n → Owed es ks → Owed (messages.put_if b e es) (known.learned k ks)
  owed_put_if true e k es ks is h = λ m d. known_learned m k ks (⊎_elim (λ it. inl (it ∙ is)) (λ old. inr (h m old)) (due_put m e es d))
  owed_put_if false e k es ks is h = λ m d. known_learned m k ks (inr (h m (due_left m e.1 es d).0))

  pub sound_learned : (of : ℕ → ℕ) (k : Known) (due : ℕ) (m : Messages) → S k.n k.sender → Sound of m → Sound (put_at of k.n k.birth) (messages.learned k due m)
  sound_learned of k due m s h = (
    each_learned_at k m.known (position (known.is_from k.n) m.known) s h.0,
    owed_put_if k.local (due, k.n) k m.local m.known refl h.1,
    owed_put_if k.remote (due, k.n) k m.remote m.known refl h.2,
    born_learned of k m.known h.3,
  )

  pub sound_moved_local : (of : ℕ → ℕ) (e : ℕ × ℕ) (m : Messages) → Sound of m → Sound of (record m { local = moved e m.local })
  sound_moved_local of e m h = (h.0, (λ n d. h.1 n (due_moved n e m.local d)), h.2, h.3)

  pub sound_moved_remote : (of : ℕ → ℕ) (e : ℕ × ℕ) (m : Messages) → Sound of m → Sound of (record m { remote = moved e m.remote })
  sound_moved_remote of e m h = (h.0, h.1, (λ n d. h.2 n (due_moved n e m.remote d)), h.3)

  pub sound_forgotten : (of : ℕ → ℕ) (n : ℕ) (m : Messages) → Sound of m → Sound of (messages.forgotten n m)
  sound_forgotten of n m h = (
    each_filter (λ (k : Known). not (known.is_of n k)) m.known h.0,
    (λ i d. let w = due_left i n m.local d in known_after i n m.known w.1 (h.1 i w.0)),
    (λ i d. let w = due_left i n m.remote d in known_after i n m.known w.1 (h.2 i w.0)),
    born_forgotten of n m.known h.3,
  )

  each_local_gone : (o : Option ℕ) (n : ℕ) (ks : List Known) → position (known.is_of n) ks ≡ o → Each ks → Each (known.local_gone_at o ks)
  each_local_gone None n ks e p = p
  each_local_gone (Some i) n ks e p = each_set ks i (record (get_or ks i known.nobody) { local = false }) (each_get ks i known.nobody (place_is (known.is_of n) ks i known.nobody e).0 p) p

  each_remote_gone : (o : Option ℕ) (n : ℕ) (ks : List Known) → position (known.is_of n) ks ≡ o → Each ks → Each (known.remote_gone_at o ks)
  each_remote_gone None n ks e p = p
  each_remote_gone (Some i) n ks e p = each_set ks i (record (get_or ks i known.nobody) { remote = false }) (each_get ks i known.nobody (place_is (known.is_of n) ks i known.nobody e).0 p) p

  each_put_off : (o : Option ℕ) (n moment : ℕ) (ks : List Known) → position (known.is_of n) ks ≡ o → Each ks → Each (known.put_off_at o moment ks)
  each_put_off None n moment ks e p = p
  each_put_off (Some i) n moment ks e p = each_set ks i (record (get_or ks i known.nobody) { finish_at = moment }) (each_get ks i known.nobody (place_is (known.is_of n) ks i known.nobody e).0 p) p

  still_local : (o : Option ℕ) (m : ℕ) (ks : List Known) → known.is_known m (known.local_gone_at o ks) ≡ known.is_known m ks
  still_local None m ks = refl
  still_local (Some i) m ks = any_set (known.is_of m) ks i (record (get_or ks i known.nobody) { local = false }) known.nobody refl

  still_remote : (o : Option ℕ) (m : ℕ) (ks : List Known) → known.is_known m (known.remote_gone_at o ks) ≡ known.is_known m ks
  still_remote None m ks = refl
  still_remote (Some i) m ks = any_set (known.is_of m) ks i (record (get_or ks i known.nobody) { remote = false }) known.nobody refl

  still_put_off : (o : Option ℕ) (m moment : ℕ) (ks : List Known) → known.is_known m (known.put_off_at o moment ks) ≡ known.is_known m ks
  still_put_off None m moment ks = refl
  still_put_off (Some i) m moment ks = any_set (known.is_of m) ks i (record (get_or ks i known.nobody) { finish_at = moment }) known.nobody refl

  pub sound_local_gone : (of : ℕ → ℕ) (n : ℕ) (m : Messages) → Sound of m → Sound of (messages.local_gone n m)
  sound_local_gone of n m h =
      let o : Option ℕ = position (known.is_of n) m.known in (
        each_local_gone o n m.known refl h.0,
        (λ i d. still_local o i m.known ∙ h.1 i (due_left i n m.local d).0),
        (λ i d. still_local o i m.known ∙ h.2 i d),
        born_local of n m.known h.3,
      )

  pub sound_remote_gone : (of : ℕ → ℕ) (n : ℕ) (m : Messages) → Sound of m → Sound of (messages.remote_gone n m)
  sound_remote_gone of n m h =
      let o : Option ℕ = position (known.is_of n) m.known in (
        each_remote_gone o n m.known refl h.0,
        (λ i d. still_remote o i m.known ∙ h.1 i d),
        (λ i d. still_remote o i m.known ∙ h.2 i (due_left i n m.remote d).0),
        born_remote of n m.known h.3,
      )

  pub sound_put_off : (of : ℕ → ℕ) (n moment : ℕ) (m : Messages) → Sound of m → Sound of (record m { known = known.put_off n moment m.known })
  sound_put_off of n moment m h =
      let o : Option ℕ = position (known.is_of n) m.known in (
        each_put_off o n moment m.known refl h.0,
        (λ i d. still_put_off o i moment m.known ∙ h.1 i d),
        (λ i d. still_put_off o i moment m.known ∙ h.2 i d),
        born_put_off of n moment m.known h.3,
      )

  -- a known message's sender was said of it
  pub sender_said : (n : ℕ) (ks : List Known) → known.is_known n ks ≡ true → Each ks → S n (known.sender_of n ks)
  sender_said n ks is p = by (position (known.is_of n) ks) refl where
    by : (o : Option ℕ) → position (known.is_of n) ks ≡ o → S n (known.sender_in (known.known_at o ks))
    by None e = absurd (none_passes (known.is_of n) ks e is)
    by (Some i) e =
        let w : (i < length ks) × (known.is_of n (get_or ks i known.nobody) ≡ true) = place_is (known.is_of n) ks i known.nobody e in
        let at : slice_get ks i ≡ Some (get_or ks i known.nobody) = slice_get-get_or ks i known.nobody w.0 in
        subst (λ (o : Option Known). S n (known.sender_in o)) (sym at)
        (subst (λ (m : ℕ). S m (get_or ks i known.nobody).sender) (eqb-true (get_or ks i known.nobody).n n w.1) (each_get ks i known.nobody w.0 p))

pub each_more : (S T : ℕ → List ℕ → Type 0) → ((n : ℕ) (sender : List ℕ) → S n sender → T n sender) → (ks : List Known) → Each S ks → Each T ks
each_more S T f [] p = tt
each_more S T f (k ∷ ks) p = (f k.n k.sender p.0, each_more S T f ks p.1)
