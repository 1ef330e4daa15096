-- Channel files: through machine stops, marks, and as ledgers grow.
use Rattle.std.proofs.Common.{◌≡◌, ◌⊎◌, inl, inr, ℕ, zero, suc, ◌+◌, ◌-◌, ◌<◌, ◌≤◌, List, [], ◌∷◌, ◌++◌, length, take, drop, Option, Some, refl, sym, ap, ◌∙◌, subst, ⊎_elim, arith, slice_get, le_antisymm, append_assoc}
use Rattle.std.specs.List.{enumerate_from}
use Rattle.call_fs.specs.Disk.{File, Among}
use Rattle.call_fs.specs.Survival.{HadAt, Survives, settled}
use Rattle.call_fs.specs.Apply.{lying, put_over, overwritten, overwritten_part}
use Rattle.send_known.specs.declared.channel.Channel.{Channel}
use Rattle.address_rules.specs.declared.controls.Controls.{Controls}
use Rattle.queue_law.specs.Ledgers.{Ledger, Line, HasGrown, line_in}
use Rattle.queue_law.specs.Books.{Injection, lane_in, spot_in, with_line}
use Rattle.queue_law.specs.Entered.{named_by}
use Rattle.queue_law.specs.Routes.{Recipient, lane_text, spot_of}
use Rattle.queue_law.specs.Marks.{IsDone, IsMarked, AllMarked, IsLaneDone}
use Rattle.queue_law.proofs.Growth.{line_grows}

-- a machine stop: a mark may be lost, and none is made up
pub marked_survives : (i : Injection) (ch : Channel) (f : File) (bytes : List ℕ) → AllMarked i ch f → Survives f bytes
    → AllMarked i ch (settled bytes f)
marked_survives i ch f bytes m s = record { present = here; synced = here; since = λ place value h. absurd h; no_shorter = long; no_longer = long }
  where
    long : length bytes ≡ length (lane_in i ch)
    long = le_antisymm (omega (arith, s.no_longer, m.no_longer)) (omega (arith, s.no_shorter, m.no_shorter))

    had : (k : ℕ) (value : Option ℕ) → k < length (lane_in i ch) → HadAt f k value
        → (value ≡ slice_get (lane_in i ch) k) ⊎ (IsDone i.ledger ch k × (value ≡ Some 68))
    had k value lt w = ⊎_elim
        (λ (kept : value ≡ slice_get f.kept k). ⊎_elim
        (λ (e : slice_get f.kept k ≡ slice_get (lane_in i ch) k). inl (kept ∙ e))
        (λ (e : IsDone i.ledger ch k × (slice_get f.kept k ≡ Some 68)). inr (e.0, kept ∙ e.1))
        (m.synced.each k lt))
        (λ given. let e = m.since k given.0 given.1 in inr (e.1, given.2 ∙ ap Some e.0))
        w

    here : IsMarked (lane_in i ch) i.ledger ch bytes
    here = record {
      long = long;
      each = λ k lt. let size = m.synced.long in had k (slice_get bytes k) lt (s.below k (omega arith) (omega arith));
    }

-- the byte of a mark
abbrev pub mark : List ℕ
mark = 68 ∷ []

-- a `D` over what stood at a place, if the place is there
pub record IsOver (at : ℕ) (old new : List ℕ) : Type 0 where
  pub long : length new ≡ length old
  pub here : at < length old → slice_get new at ≡ Some 68
  pub each : (k : ℕ) → (slice_get new k ≡ slice_get old k) ⊎ ((k ≡ at) × (slice_get new k ≡ Some 68))

over_first : (x : ℕ) (xs : List ℕ) → IsOver zero (x ∷ xs) (68 ∷ xs)
over_first x xs = record { long = refl; here = λ lt. refl; each = each }
  where
    each : (k : ℕ) → (slice_get {X = ℕ} (68 ∷ xs) k ≡ slice_get (x ∷ xs) k) ⊎ ((k ≡ zero) × (slice_get {X = ℕ} (68 ∷ xs) k ≡ Some 68))
    each zero = inr (refl, refl)
    each (suc k) = inl refl

over_later : (at x : ℕ) (xs new : List ℕ) → IsOver at xs new → IsOver (suc at) (x ∷ xs) (x ∷ new)
over_later at x xs new h = record { long = ap suc h.long; here = λ lt. h.here (omega arith); each = each }
  where
    each : (k : ℕ) → (slice_get (x ∷ new) k ≡ slice_get (x ∷ xs) k) ⊎ ((k ≡ suc at) × (slice_get (x ∷ new) k ≡ Some 68))
    each zero = inl refl
    each (suc k) = ⊎_elim (λ (e : slice_get new k ≡ slice_get xs k). inl e) (λ (e : (k ≡ at) × (slice_get new k ≡ Some 68)). inr (ap suc e.0, e.1)) (h.each k)

over_here : (at : ℕ) (old : List ℕ) → at < length old → IsOver at old (take at old ++ 68 ∷ drop (suc at) old)
over_here at [] lt = absurd (omega arith)
over_here zero (x ∷ xs) lt = over_first x xs
over_here (suc at) (x ∷ xs) lt = over_later at x xs (take at xs ++ 68 ∷ drop (suc at) xs) (over_here at xs (omega arith))

whole : (n : ℕ) (xs : List ℕ) → take n xs ++ drop n xs ≡ xs
whole zero xs = refl
whole (suc n) [] = refl
whole (suc n) (x ∷ xs) = ap (λ ys. x ∷ ys) (whole n xs)

-- of one byte there is none, or one
few : (n : ℕ) → ((take n mark ≡ []) × (n ≡ 0)) ⊎ ((take n mark ≡ mark) × (1 ≤ n))
few zero = inl (refl, refl)
few (suc zero) = inr (refl, omega arith)
few (suc (suc n)) = inr (refl, omega arith)

abbrev pub over : ℕ → List ℕ → List ℕ
over at old = put_over at (lying (length old) at mark) old

pub is_over : (at : ℕ) (old : List ℕ) → IsOver at old (over at old)
is_over at old = ⊎_elim
    (λ (e : (take (length old - at) mark ≡ []) × (length old - at ≡ 0)).
    let none = e.1 in
    let next : at + 0 ≡ at = omega arith in
    let same : put_over at [] old ≡ old = append_assoc (take at old) [] (drop (at + 0) old) ∙ ap (λ n. take at old ++ drop n old) next ∙ whole at old in
    subst (λ bytes. IsOver at old (put_over at bytes old)) (sym e.0) (subst (IsOver at old) (sym same) (record { long = refl; here = λ lt. absurd (omega (arith, none, lt)); each = λ k. inl refl })))
    (λ (e : (take (length old - at) mark ≡ mark) × (1 ≤ length old - at)).
    let some = e.1 in
    let next : suc at ≡ at + 1 = omega arith in
    let here = over_here at old (omega arith) in
    let joined : put_over at mark old ≡ take at old ++ 68 ∷ drop (at + 1) old = append_assoc (take at old) mark (drop (at + 1) old) in
    subst (λ bytes. IsOver at old (put_over at bytes old)) (sym e.0) (subst (IsOver at old) (sym joined)
    (subst (λ n. IsOver at old (take at old ++ 68 ∷ drop n old)) next here)))
    (few (length old - at))

among_append : {A : Type 0} (x : A) (xs ys : List A) → Among x (xs ++ ys) → Among x xs ⊎ Among x ys
among_append x [] ys h = inr h
among_append x (y ∷ xs) ys h = ⊎_elim
    (λ (e : x ≡ y). inl (inl e))
    (λ (w : Among x (xs ++ ys)). ⊎_elim (λ (v : Among x xs). inl (inr v)) (λ (v : Among x ys). inr v) (among_append x xs ys w))
    h

none_given : (m at place value : ℕ) → Among (place, value) (enumerate_from at (take m [])) → (place ≡ at) × (value ≡ 68)
none_given zero at place value h = absurd h
none_given (suc m) at place value h = absurd h

one_given : (at place value : ℕ) → Among (place, value) (enumerate_from at mark) → (place ≡ at) × (value ≡ 68)
one_given at place value h = ⊎_elim (λ (e : (place, value) ≡ (at, 68)). (ap (λ (z : ℕ × ℕ). z.0) e, ap (λ (z : ℕ × ℕ). z.1) e)) (λ (w : ⊥). absurd w) h

-- what a mark gives a value
marks_given : (m n at place value : ℕ) → Among (place, value) (enumerate_from at (take m (take n mark))) → (place ≡ at) × (value ≡ 68)
marks_given m n at place value h = ⊎_elim
    (λ (e : (take n mark ≡ []) × (n ≡ 0)). none_given m at place value (subst (λ (bytes : List ℕ). Among (place, value) (enumerate_from at (take m bytes))) e.0 h))
    (λ (e : (take n mark ≡ mark) × (1 ≤ n)).
    let g = subst (λ (bytes : List ℕ). Among (place, value) (enumerate_from at (take m bytes))) e.0 h in
    ⊎_elim
    (λ (v : (take m mark ≡ []) × (m ≡ 0)). absurd (subst (λ (bytes : List ℕ). Among (place, value) (enumerate_from at bytes)) v.0 g))
    (λ (v : (take m mark ≡ mark) × (1 ≤ m)). one_given at place value (subst (λ (bytes : List ℕ). Among (place, value) (enumerate_from at bytes)) v.0 g))
    (few m))
    (few n)

-- a mark at the place of a recipient that is done
pub marked_over : (i : Injection) (ch : Channel) (f : File) (now at : ℕ) → IsDone i.ledger ch at → AllMarked i ch f
    → AllMarked i ch (overwritten now at (68 ∷ []) f)
marked_over i ch f now at done m =
    let w = is_over at f.bytes in
    record {
      present = record {
        long = w.long ∙ m.present.long;
        each = λ k lt. ⊎_elim
            (λ (e : slice_get (over at f.bytes) k ≡ slice_get f.bytes k). ⊎_elim
            (λ (v : slice_get f.bytes k ≡ slice_get (lane_in i ch) k). inl (e ∙ v))
            (λ (v : IsDone i.ledger ch k × (slice_get f.bytes k ≡ Some 68)). inr (v.0, e ∙ v.1))
            (m.present.each k lt))
            (λ (e : (k ≡ at) × (slice_get (over at f.bytes) k ≡ Some 68)). inr (subst (IsDone i.ledger ch) (sym e.0) done, e.1))
            (w.each k);
      };
      synced = m.synced;
      since = λ place value h. ⊎_elim
          (λ (v : Among (place, value) f.given). m.since place value v)
          (λ v. let g = marks_given _ _ at place value v in (g.1, subst (IsDone i.ledger ch) (sym g.0) done))
          (among_append (place, value) f.given _ h);
      no_shorter = m.no_shorter;
      no_longer = m.no_longer;
    }

-- so of one that failed, after however many bytes
pub marked_part : (i : Injection) (ch : Channel) (f : File) (now at wrote : ℕ) → IsDone i.ledger ch at → AllMarked i ch f
    → AllMarked i ch (overwritten_part now at (68 ∷ []) wrote f)
marked_part i ch f now at zero done m = m
marked_part i ch f now at (suc zero) done m = marked_over i ch f now at done m
marked_part i ch f now at (suc (suc k)) done m = marked_over i ch f now at done m

done_grown : (l m : Ledger) → HasGrown l m → (ch : Channel) (place : ℕ) → IsDone l ch place → IsDone m ch place
done_grown l m g ch place done = (done.0, g.marked (named_by done.0 ch place) done.1)

grown_bytes : (text bytes : List ℕ) (l m : Ledger) → HasGrown l m → (ch : Channel) → IsMarked text l ch bytes → IsMarked text m ch bytes
grown_bytes text bytes l m g ch marked = record {
  long = marked.long;
  each = λ k lt. ⊎_elim
      (λ (e : slice_get bytes k ≡ slice_get text k). inl e)
      (λ (e : IsDone l ch k × (slice_get bytes k ≡ Some 68)). inr (done_grown l m g ch k e.0, e.1))
      (marked.each k lt);
}

-- a ledger that grows by a line that doesn't route the message anew
pub marked_grown : (i : Injection) (line : Line) → (line_in line i.ledger).routes ≡ i.ledger.routes → (ch : Channel) (f : File) → AllMarked i ch f → AllMarked (with_line line i) ch f
marked_grown i line same ch f m =
    let g = line_grows line i.ledger in
    let text : lane_in i ch ≡ lane_in (with_line line i) ch = ap (λ (c : Controls). lane_text c i.args ch) (sym same) in
    record {
      present = subst (λ (t : List ℕ). IsMarked t (line_in line i.ledger) ch f.bytes) text (grown_bytes (lane_in i ch) f.bytes i.ledger (line_in line i.ledger) g ch m.present);
      synced = subst (λ (t : List ℕ). IsMarked t (line_in line i.ledger) ch f.kept) text (grown_bytes (lane_in i ch) f.kept i.ledger (line_in line i.ledger) g ch m.synced);
      since = λ place value h. let w = m.since place value h in (w.0, done_grown i.ledger (line_in line i.ledger) g ch place w.1);
      no_shorter = m.no_shorter ∙ ap length text;
      no_longer = m.no_longer ∙ ap length text;
    }

pub lane_grown : (i : Injection) (line : Line) → (line_in line i.ledger).routes ≡ i.ledger.routes → (ch : Channel) → IsLaneDone i ch → IsLaneDone (with_line line i) ch
lane_grown i line same ch = subst
    (λ (c : Controls). ((r : Recipient i.args) → (spot_of i.ledger.routes i.args r).channel ≡ ch → IsDone i.ledger ch (spot_of i.ledger.routes i.args r).place)
    → (r : Recipient i.args) → (spot_of c i.args r).channel ≡ ch → IsDone (line_in line i.ledger) ch (spot_of c i.args r).place)
    (sym same)
    (λ all r on. done_grown i.ledger (line_in line i.ledger) (line_grows line i.ledger) ch (spot_in i r).place (all r on))
