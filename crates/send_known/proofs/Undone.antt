-- What was put into a schedule, and is taken out again.
use Rattle.std.proofs.Common.{◌≡◌, ℕ, List, Bool, true, false, cond, not, refl, inl, sym, ap, ◌∙◌}
use Rattle.std.specs.Prelude.{Option, Some, None}
use Rattle.retry_schedule.specs.Due.{IsDueOf, IsSchedule, is_due, moved, put, removed}
use Rattle.retry_schedule.proofs.Entries.{due_there, in_added, put_back, put_undone}
use Rattle.send_known.specs.declared.known.Known.{Known}
use Rattle.send_known.specs.declared.messages.Messages.{Messages}
use Rattle.send_known.specs.Known as list
use Rattle.send_known.specs.Messages.{dropped_if, entered_if, learned, put_if}

-- an entry that was put in is there
put_there : (e : ℕ × ℕ) (es : List (ℕ × ℕ)) → is_due e.1 (put e es) ≡ true
put_there e es = due_there e.1 (put e es) e ((in_added e e (removed e.1 es)).1 (inl refl)) refl

-- moved back to the moment that it had
moved_back : (due was n : ℕ) (es : List (ℕ × ℕ)) → IsSchedule es → IsDueOf n es (Some was) → moved (let e : ℕ × ℕ = (was, n) in e) (put (let e : ℕ × ℕ = (due, n) in e) es) ≡ es
moved_back due was n es h is =
    let old : ℕ × ℕ = (was, n) in
    let new : ℕ × ℕ = (due, n) in
    ap (λ b. cond b (put old (put new es)) (put new es)) (put_there new es) ∙ put_back new old es h is refl

pub undone : (has : Bool) (was : Option ℕ) (due n : ℕ) (es old : List (ℕ × ℕ)) → IsSchedule es → IsDueOf n es was → old ≡ entered_if has (let e : ℕ × ℕ = (due, n) in e) es → has ≡ true
    → (moment : ℕ) → was ≡ Some moment → moved (let e : ℕ × ℕ = (moment, n) in e) old ≡ es
undone true None due n es old h is put_in told moment some = absurd (cc)
undone true (Some was) due n es old h is put_in told moment some =
    let same : was ≡ moment = cc in
    ap (λ (x : ℕ). moved (let e : ℕ × ℕ = (x, n) in e) old) (sym same)
    ∙ ap (λ (l : List (ℕ × ℕ)). moved (let e : ℕ × ℕ = (was, n) in e) l) put_in
    ∙ moved_back due was n es h is
undone false was due n es old h is put_in told moment some = absurd (cc)

pub undone_none : (has : Bool) (was : Option ℕ) (due n : ℕ) (es old : List (ℕ × ℕ)) → IsSchedule es → IsDueOf n es was → old ≡ entered_if has (let e : ℕ × ℕ = (due, n) in e) es → has ≡ true
    → was ≡ None → removed n old ≡ es
undone_none true None due n es old h is put_in told none = ap (λ (l : List (ℕ × ℕ)). removed n l) put_in ∙ put_undone (let e : ℕ × ℕ = (due, n) in e) es h is
undone_none true (Some was) due n es old h is put_in told none = absurd (cc)
undone_none false was due n es old h is put_in told none = absurd (cc)

pub undone_nothing : (has : Bool) (due n : ℕ) (es old : List (ℕ × ℕ)) → old ≡ entered_if has (let e : ℕ × ℕ = (due, n) in e) es → has ≡ false → old ≡ es
undone_nothing true due n es old put_in none = absurd (cc)
undone_nothing false due n es old put_in none = put_in

-- both parts together are what is said of both
pub both_parts : (has : Bool) (due n : ℕ) (es mid new : List (ℕ × ℕ)) → mid ≡ entered_if has (let e : ℕ × ℕ = (due, n) in e) es → new ≡ dropped_if (not has) n mid → new ≡ put_if has (let e : ℕ × ℕ = (due, n) in e) es
both_parts true due n es mid new entered dropped = dropped ∙ entered
both_parts false due n es mid new entered dropped = dropped ∙ ap (λ (l : List (ℕ × ℕ)). removed n l) entered

-- the three fields of what is known
pub same_messages : (m : Messages) (known : List Known) (local remote : List (ℕ × ℕ)) → known ≡ m.known → local ≡ m.local → remote ≡ m.remote → ◌≡◌ {A = Messages} (record { known = known; local = local; remote = remote }) m
same_messages m known local remote k l r =
    ap (λ (x : List Known). let o : Messages = record { known = x; local = local; remote = remote } in o) k
    ∙ ap (λ (x : List (ℕ × ℕ)). let o : Messages = record { known = m.known; local = x; remote = remote } in o) l
    ∙ ap (λ (x : List (ℕ × ℕ)). let o : Messages = record { known = m.known; local = m.local; remote = x } in o) r

pub learned_is : (k : Known) (due : ℕ) (m : Messages) (known : List Known) (local remote : List (ℕ × ℕ)) → known ≡ list.learned k m.known
    → local ≡ put_if k.local (let e : ℕ × ℕ = (due, k.n) in e) m.local → remote ≡ put_if k.remote (let e : ℕ × ℕ = (due, k.n) in e) m.remote
    → ◌≡◌ {A = Messages} (record { known = known; local = local; remote = remote }) (learned k due m)
learned_is k due m known local remote a b c = same_messages (learned k due m) known local remote a b c
