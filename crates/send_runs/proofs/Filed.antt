-- A known message is due on just the channels of which it has a file.
use Rattle.std.proofs.Common.{◌≡◌, ℕ, suc, List, [], ◌∷◌, position, cond, Bool, true, false, not, if◌then◌else◌, refl, sym, ap, ◌∙◌, subst, inl, inr, ⊎_elim, arith, eqb-true, eq-eqb}
use Rattle.std.specs.Prelude.{◌↔◌, ◌||◌, ◌==◌, Option}
use Rattle.std.proofs.lemmas.Bool.{cases_eq}
use Rattle.call_fs.specs.declared.past.Own.{Own}
use Rattle.retry_schedule.proofs.Entries.{in_added, in_removed}
use Rattle.retry_schedule.specs.Due.{HasEntry, is_due, moved, put, removed}
use Rattle.send_core.specs.Table.{place_after}
use Rattle.send_known.specs.declared.channel.Channel.{Channel}
use Rattle.send_known.specs.declared.channel.Channel.TheVariants.{Local, Remote}
use Rattle.send_jobs.specs.Tries.{due_then, file_gone}
use Rattle.send_known.specs.Known as known
use Rattle.send_known.specs.declared.known.Known.{Known}
use Rattle.send_known.specs.declared.messages.Messages.{Messages}
use Rattle.send_known.specs.Messages.{learned, put_if}
use Rattle.send_runs.proofs.Knowns.{EachOf, of_learned, of_local_gone, of_put_off, of_remote_gone, of_same}
use Rattle.send_runs.proofs.Messages.{Keeps, of_past}
use Rattle.send_runs.proofs.Rising.{RiseFrom, rise_learned, rise_local, rise_off, rise_remote, rise_filtered}

-- Entries

abbrev Entry : Type 0
Entry = ℕ × ℕ

entry_of : (n : ℕ) (es : List Entry) → is_due n es ≡ true → HasEntry n es
entry_of n [] e = absurd (cc)
entry_of n (x ∷ es) e = by (x.1 == n) refl e (entry_of n es) where
  by : (b : Bool) → (x.1 == n) ≡ b → (b || is_due n es) ≡ true → (is_due n es ≡ true → HasEntry n es) → HasEntry n (x ∷ es)
  by true is e later = (x.0, (0, omega arith, ap (λ (k : ℕ). let it : Entry = (x.0, k) in it) (eqb-true x.1 n is)))
  by false is e later = let h : HasEntry n es = later e in (h.0, (suc h.1.0, omega (arith, h.1.1), h.1.2))

removed_entry : (n m : ℕ) (es : List Entry) → (n ≡ m → ⊥) → HasEntry n es ↔ HasEntry n (removed m es)
removed_entry n m es other = (
  (λ h. (h.0, (in_removed m (let o : Entry = (h.0, n) in o) es).1 (h.1, other))),
  (λ h. (h.0, ((in_removed m (let o : Entry = (h.0, n) in o) es).0 h.1).0)),
)

removed_none : (n : ℕ) (es : List Entry) → HasEntry n (removed n es) → ⊥
removed_none n es h = ((in_removed n (let o : Entry = (h.0, n) in o) es).0 h.1).1 refl

put_own : (n due : ℕ) (es : List Entry) → HasEntry n (put (due, n) es)
put_own n due es = (due, (in_added (let o : Entry = (due, n) in o) (let o : Entry = (due, n) in o) (removed n es)).1 (inl refl))

put_other : (n m due : ℕ) (es : List Entry) → (n ≡ m → ⊥) → HasEntry n es ↔ HasEntry n (put (due, m) es)
put_other n m due es other = (
  (λ h. (h.0, (in_added (let o : Entry = (due, m) in o) (let o : Entry = (h.0, n) in o) (removed m es)).1 (inr ((in_removed m (let o : Entry = (h.0, n) in o) es).1 (h.1, other))))),
  (λ h. ⊎_elim
      (λ same. absurd (other (ap (λ (e : Entry). e.1) same)))
      (λ more. (h.0, ((in_removed m (let o : Entry = (h.0, n) in o) es).0 more).0))
      ((in_added (let o : Entry = (due, m) in o) (let o : Entry = (h.0, n) in o) (removed m es)).0 h.1)),
)

moved_entry : (n m due : ℕ) (es : List Entry) → HasEntry n es ↔ HasEntry n (moved (due, m) es)
moved_entry n m due es = by (is_due m es) refl where
  by : (b : Bool) → is_due m es ≡ b → HasEntry n es ↔ HasEntry n (if b then put (due, m) es else es)
  by true is = ⊎_elim
      (λ (same : n ≡ m). ((λ h. subst (λ (k : ℕ). HasEntry k (put (due, m) es)) (sym same) (put_own m due es)), (λ h. subst (λ (k : ℕ). HasEntry k es) (sym same) (entry_of m es is))))
      (λ (other : n ≡ m → ⊥). put_other n m due es other)
      (cases_eq n m)
  by false is = ((λ h. h), (λ h. h))

if_own : (b : Bool) (n due : ℕ) (es : List Entry) → (b ≡ true) ↔ HasEntry n (put_if b (due, n) es)
if_own true n due es = ((λ e. put_own n due es), (λ h. refl))
if_own false n due es = ((λ e. absurd (cc)), (λ h. absurd (removed_none n es h)))

if_other : (b : Bool) (n m due : ℕ) (es : List Entry) → (n ≡ m → ⊥) → HasEntry n es ↔ HasEntry n (put_if b (due, m) es)
if_other true n m due es other = put_other n m due es other
if_other false n m due es other = removed_entry n m es other

-- Known messages

abbrev pub Filed : List Entry → List Entry → Known → Type 0
Filed local remote k = ((k.local ≡ true) ↔ HasEntry k.n local) × ((k.remote ≡ true) ↔ HasEntry k.n remote)

through : (A B C : Type 0) → A ↔ B → B ↔ C → A ↔ C
through A B C p q = ((λ a. q.0 (p.0 a)), (λ c. p.1 (q.1 c)))

-- with the same flags, and the same entries of its number
filed_on : (l r x y : List Entry) (k : Known) → HasEntry k.n l ↔ HasEntry k.n x → HasEntry k.n r ↔ HasEntry k.n y → Filed l r k → Filed x y k
filed_on l r x y k p q h = (through (k.local ≡ true) (HasEntry k.n l) (HasEntry k.n x) h.0 p, through (k.remote ≡ true) (HasEntry k.n r) (HasEntry k.n y) h.1 q)

same_entry : (n : ℕ) (es : List Entry) → HasEntry n es ↔ HasEntry n es
same_entry n es = ((λ h. h), (λ h. h))

abbrev AreFiled : Messages → Type 0
AreFiled m = RiseFrom 0 m.known × EachOf (Filed m.local m.remote) m.known

filed_learned : (k : Known) (due : ℕ) (m : Messages) → AreFiled m → AreFiled (learned k due m)
filed_learned k due m h =
    let l : List Entry = put_if k.local (due, k.n) m.local in
    let r : List Entry = put_if k.remote (due, k.n) m.remote in (
      rise_learned k m.known (position (known.is_from k.n) m.known) refl h.0,
      of_learned (Filed m.local m.remote) (Filed l r) k (if_own k.local k.n due m.local, if_own k.remote k.n due m.remote)
          (λ y other w. filed_on m.local m.remote l r y (if_other k.local y.n k.n due m.local other) (if_other k.remote y.n k.n due m.remote other) w) m.known h.0 h.1,
    )

filed_moved : (c : Channel) (n due : ℕ) (m : Messages) → AreFiled m → AreFiled (due_then c n due m)
filed_moved Local n due m h =
    (h.0, of_same (Filed m.local m.remote) (Filed (moved (due, n) m.local) m.remote) m.known (λ k w. filed_on m.local m.remote (moved (due, n) m.local) m.remote k (moved_entry k.n n due m.local) (same_entry k.n m.remote) w) h.1)
filed_moved Remote n due m h =
    (h.0, of_same (Filed m.local m.remote) (Filed m.local (moved (due, n) m.remote)) m.known (λ k w. filed_on m.local m.remote m.local (moved (due, n) m.remote) k (same_entry k.n m.local) (moved_entry k.n n due m.remote) w) h.1)

none_left : (n m : ℕ) (es : List Entry) → n ≡ m → (false ≡ true) ↔ HasEntry n (removed m es)
none_left n m es same = ((λ e. absurd (cc)), (λ h. absurd (removed_none m es (subst (λ (k : ℕ). HasEntry k (removed m es)) same h))))

filed_gone : (c : Channel) (n : ℕ) (m : Messages) → AreFiled m → AreFiled (file_gone c n m)
filed_gone Local n m h = let l : List Entry = removed n m.local in (
  rise_local m.known (position (known.is_of n) m.known) h.0,
  of_local_gone (Filed m.local m.remote) (Filed l m.remote) n (λ k same w. (none_left k.n n m.local same, w.1))
      (λ k other w. filed_on m.local m.remote l m.remote k (removed_entry k.n n m.local other) (same_entry k.n m.remote) w) m.known h.0 h.1,
)
filed_gone Remote n m h = let r : List Entry = removed n m.remote in (
  rise_remote m.known (position (known.is_of n) m.known) h.0,
  of_remote_gone (Filed m.local m.remote) (Filed m.local r) n (λ k same w. (w.0, none_left k.n n m.remote same))
      (λ k other w. filed_on m.local m.remote m.local r k (same_entry k.n m.local) (removed_entry k.n n m.remote other) w) m.known h.0 h.1,
)

filed_forgotten : (n : ℕ) (l r : List Entry) (ks : List Known) → EachOf (Filed l r) ks → EachOf (Filed (removed n l) (removed n r)) (known.forgotten n ks)
filed_forgotten n l r [] h = tt
filed_forgotten n l r (k ∷ ks) h = by (k.n == n) refl (filed_forgotten n l r ks h.1) where
  by : (b : Bool) → (k.n == n) ≡ b → EachOf (Filed (removed n l) (removed n r)) (known.forgotten n ks) → EachOf (Filed (removed n l) (removed n r)) (cond (not b) (k ∷ known.forgotten n ks) (known.forgotten n ks))
  by true is rest = rest
  by false is rest =
      let other : k.n ≡ n → ⊥ = (λ same. let bad : (k.n == n) ≡ true = eq-eqb k.n n same in absurd (cc (sym is ∙ bad))) in
      (filed_on l r (removed n l) (removed n r) k (removed_entry k.n n l other) (removed_entry k.n n r other) h.0, rest)

keep : Keeps AreFiled
keep = record {
  none = (tt, tt);
  learns = filed_learned;
  moves = filed_moved;
  loses = filed_gone;
  delays = λ n moment m h. (rise_off moment m.known (position (known.is_of n) m.known) h.0, of_put_off (Filed m.local m.remote) n moment (λ k w. w) m.known h.1);
  forgets = λ n m h. (rise_filtered (λ k. not (known.is_of n k)) 0 m.known h.0, filed_forgotten n m.local m.remote m.known h.1);
}

pub filed_past : (turns : Option ℕ) (past : List Own) → let m : Messages = (place_after turns past).book.messages in EachOf (Filed m.local m.remote) m.known
filed_past turns past = (of_past AreFiled keep turns past).1
