-- The message numbers that aren't in S1.
use Rattle.std.proofs.Common.{eqb, ◌≡◌, ◌≢◌, ◌⊎◌, ◌&&◌, ◌||◌, ℕ, ◌^◌, ◌<◌, ◌≤◌, List, Bool, true, false, nat_cmp, refl, sym, ◌∙◌, ap, subst, inl, inr, ⊎_elim}
use Rattle.std.specs.Prelude.{Contains, not, if◌then◌else◌}
use Rattle.std.specs.List.{dedup}
use Rattle.std.specs.List.Sorted.{IsStrictlyIncreasing, IsPermutation, IsSorted}
use Rattle.std.proofs.lemmas.List.Kept.{Contains-dedup_nat, Contains-from_dedup}
use Rattle.std.proofs.lemmas.List.Sorted.{Contains-permutation, IsPermutation-sym}
use Rattle.std.proofs.lemmas.Map.Keys.{IsStrictlyIncreasing-dedup}
use Rattle.std.proofs.lemmas.Bool.{false≢true}
use Rattle.std.proofs.lemmas.List.Elements.{All-weaker, All-contains_itself}
use Rattle.call_fs.specs.Disk.{Disk}
use Rattle.queue_paths.specs.Names.{Part}
use Rattle.queue_paths.specs.Names.Part.{Mess, Intd, Todo, Info, Local, Remote, Bounce, SplitIntd, SplitTodo}
use Rattle.queue_paths.proofs.Paths.{is_number_tells, is_number_if}
use Rattle.queue_states.specs.declared.state.State.{State}
use Rattle.queue_states.specs.declared.state.State.TheVariants.{S1, S2, S3, S4, S5, Other}
use Rattle.queue_states.specs.States.{state_by, state_of, is_there}
use Rattle.queue_states.proofs.States.{state_named}
use Rattle.script_disks.specs.Numbers.{AreNumbersIn}
use Rattle.script_disks.proofs.Gathered.{HasFile, Gathered, flat_dirs, split_dirs, found_part}

-- a test holds of both
abbrev every : (Bool → Bool) → Bool
every f = f true && f false

every_tells : (f : Bool → Bool) → every f ≡ true → (b : Bool) → f b ≡ true
every_tells f h b = tells (f true) (f false) refl refl h b
  where
    tells : (x y : Bool) → f true ≡ x → f false ≡ y → (x && y) ≡ true → (b : Bool) → f b ≡ true
    tells true y e k h true = e
    tells true y e k h false = k ∙ h
    tells false y e k h b = absurd (false≢true h)

-- the state is S1 exactly if no file is there
abbrev is_s1 : State → Bool
is_s1 S1 = true
is_s1 S2 = false
is_s1 S3 = false
is_s1 S4 = false
is_s1 S5 = false
is_s1 Other = false

abbrev any : Bool → Bool → Bool → Bool → Bool → Bool → Bool → Bool
any mess intd todo info local remote bounce = mess || (intd || (todo || (info || (local || (remote || bounce)))))

abbrev one_of : Bool → Bool → Bool → Bool → Bool → Bool → Bool → Bool
one_of mess intd todo info local remote bounce =
    if is_s1 (state_by mess intd todo info local remote bounce) then not (any mess intd todo info local remote bounce) else any mess intd todo info local remote bounce

-- a test holds everywhere if it holds of true and of false
one_tells : (mess intd todo info local remote bounce : Bool) → one_of mess intd todo info local remote bounce ≡ true
one_tells mess intd todo info local remote bounce =
    every_tells (λ g. one_of mess intd todo info local remote g)
    (every_tells (λ f. every (λ g. one_of mess intd todo info local f g))
    (every_tells (λ e. every (λ f. every (λ g. one_of mess intd todo info e f g)))
    (every_tells (λ d. every (λ e. every (λ f. every (λ g. one_of mess intd todo d e f g))))
    (every_tells (λ c. every (λ d. every (λ e. every (λ f. every (λ g. one_of mess intd c d e f g)))))
    (every_tells (λ b. every (λ c. every (λ d. every (λ e. every (λ f. every (λ g. one_of mess b c d e f g))))))
    (every_tells (λ a. every (λ b. every (λ c. every (λ d. every (λ e. every (λ f. every (λ g. one_of a b c d e f g)))))))
    refl mess) intd) todo) info) local) remote) bounce

other : (state : State) → state ≢ S1 → is_s1 state ≡ false
other S1 far = absurd (far refl)
other S2 far = refl
other S3 far = refl
other S4 far = refl
other S5 far = refl
other Other far = refl

where_false : (s t : Bool) → (if s then not t else t) ≡ true → s ≡ false → t ≡ true
where_false true t h e = absurd (false≢true (sym e))
where_false false t h e = h

not_both : (s t : Bool) → (if s then not t else t) ≡ true → s ≡ true → t ≡ true → ⊥
not_both true true h e f = false≢true h
not_both true false h e f = false≢true f
not_both false t h e f = false≢true e

left : (a b : Bool) → a ≡ true → (a || b) ≡ true
left a b e = ap (λ t. t || b) e

right : (a b : Bool) → b ≡ true → (a || b) ≡ true
right true b e = refl
right false b e = e

either : (a b : Bool) → (a || b) ≡ true → (a ≡ true) ⊎ (b ≡ true)
either true b h = inl refl
either false b h = inr h

-- whether one of the names is there
any_part : (f : Part → Bool) → Bool
any_part f = any (f Mess) (f Intd || f SplitIntd) (f Todo || f SplitTodo) (f Info) (f Local) (f Remote) (f Bounce)

past_intd : (f : Part → Bool) (rest : Bool) → rest ≡ true → (f Mess || ((f Intd || f SplitIntd) || rest)) ≡ true
past_intd f rest e = right (f Mess) _ (right (f Intd || f SplitIntd) rest e)

past_todo : (f : Part → Bool) (rest : Bool) → rest ≡ true → (f Mess || ((f Intd || f SplitIntd) || ((f Todo || f SplitTodo) || rest))) ≡ true
past_todo f rest e = past_intd f _ (right (f Todo || f SplitTodo) rest e)

any_if : (f : Part → Bool) (part : Part) → f part ≡ true → any_part f ≡ true
unfolding any_part
any_if f Mess e = left (f Mess) _ e
any_if f Intd e = right (f Mess) _ (left (f Intd || f SplitIntd) _ (left (f Intd) _ e))
any_if f SplitIntd e = right (f Mess) _ (left (f Intd || f SplitIntd) _ (right (f Intd) _ e))
any_if f Todo e = past_intd f _ (left (f Todo || f SplitTodo) _ (left (f Todo) _ e))
any_if f SplitTodo e = past_intd f _ (left (f Todo || f SplitTodo) _ (right (f Todo) _ e))
any_if f Info e = past_todo f _ (left (f Info) _ e)
any_if f Local e = past_todo f _ (right (f Info) _ (left (f Local) _ e))
any_if f Remote e = past_todo f _ (right (f Info) _ (right (f Local) _ (left (f Remote) _ e)))
any_if f Bounce e = past_todo f _ (right (f Info) _ (right (f Local) _ (right (f Remote) _ e)))

any_tells : (f : Part → Bool) → any_part f ≡ true → (part : Part) × (f part ≡ true)
unfolding any_part
any_tells f h =
    ⊎_elim (λ e. (Mess, e)) (λ k1.
    ⊎_elim (λ e. ⊎_elim (λ i. (Intd, i)) (λ i. (SplitIntd, i)) (either (f Intd) _ e)) (λ k2.
    ⊎_elim (λ e. ⊎_elim (λ i. (Todo, i)) (λ i. (SplitTodo, i)) (either (f Todo) _ e)) (λ k3.
    ⊎_elim (λ e. (Info, e)) (λ k4.
    ⊎_elim (λ e. (Local, e)) (λ k5.
    ⊎_elim (λ e. (Remote, e)) (λ e. (Bounce, e))
    (either (f Remote) _ k5)) (either (f Local) _ k4)) (either (f Info) _ k3)) (either (f Todo || f SplitTodo) _ k2)) (either (f Intd || f SplitIntd) _ k1)) (either (f Mess) _ h)

tested : (d : Disk) (n : ℕ) → (if is_s1 (state_of d n) then not (any_part (λ part. is_there d part n)) else any_part (λ part. is_there d part n)) ≡ true
unfolding any_part
tested d n = subst (λ (state : State). (if is_s1 state then not (any_part (λ part. is_there d part n)) else any_part (λ part. is_there d part n)) ≡ true)
    (sym (state_named d n))
    (one_tells (is_there d Mess n) (is_there d Intd n || is_there d SplitIntd n) (is_there d Todo n || is_there d SplitTodo n) (is_there d Info n) (is_there d Local n) (is_there d Remote n) (is_there d Bounce n))

not_s1 : (d : Disk) (n : ℕ) (part : Part) → is_there d part n ≡ true → state_of d n ≢ S1
not_s1 d n part there e =
    not_both (is_s1 (state_of d n)) (any_part (λ p. is_there d p n)) (tested d n) (ap is_s1 e) (any_if (λ p. is_there d p n) part there)

pub some_part : (d : Disk) (n : ℕ) → state_of d n ≢ S1 → (part : Part) × (is_there d part n ≡ true)
some_part d n far =
    any_tells (λ p. is_there d p n) (where_false (is_s1 (state_of d n)) (any_part (λ p. is_there d p n)) (tested d n) (other (state_of d n) far))

-- a state is S1, or not
pub far_or_not : (d : Disk) (n : ℕ) → (state_of d n ≢ S1) ⊎ (¬ (state_of d n ≢ S1))
far_or_not d n = tells (is_s1 (state_of d n)) (state_of d n) refl
  where
    tells : (b : Bool) (state : State) → is_s1 state ≡ b → (state ≢ S1) ⊎ (¬ (state ≢ S1))
    tells b S1 e = inr (λ far. far refl)
    tells b S2 e = inl (λ h. absurd (cc))
    tells b S3 e = inl (λ h. absurd (cc))
    tells b S4 e = inl (λ h. absurd (cc))
    tells b S5 e = inl (λ h. absurd (cc))
    tells b Other e = inl (λ h. absurd (cc))

-- the gathered numbers, sorted and each once, are those that aren't in S1
pub numbers_in : (d : Disk) (gathered sorted numbers : List ℕ) → Gathered d flat_dirs split_dirs gathered → IsPermutation gathered sorted → IsSorted nat_cmp sorted
    → numbers ≡ dedup eqb sorted → AreNumbersIn d numbers
numbers_in d gathered sorted numbers g moved rising is =
    let back : (n : ℕ) → Contains numbers n → HasFile d n =
    λ n here. g.only n (Contains-permutation sorted gathered n (IsPermutation-sym gathered sorted moved) (Contains-from_dedup eqb sorted n (subst (λ t. Contains t n) is here))) in
    let on : (n : ℕ) → Contains gathered n → Contains numbers n =
    λ n here. subst (λ t. Contains t n) (sym is) (Contains-dedup_nat sorted n (Contains-permutation gathered sorted n moved here)) in
    record {
      each = λ n some small. (
        λ here. let file = back n here in not_s1 d n file.1 file.2,
        λ far. let part = some_part d n far in on n (found_part d gathered g part.0 n (is_number_if n some small) part.1),
      );
      only = All-weaker (Contains numbers) (λ n. (1 ≤ n) × (n < 2 ^ 64)) (λ n here. is_number_tells n (back n here).0) numbers (All-contains_itself numbers);
      rising = subst IsStrictlyIncreasing (sym is) (IsStrictlyIncreasing-dedup sorted rising);
    }
