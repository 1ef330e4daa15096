-- The events that a line adds, as the world kept them.
use Rattle.std.proofs.Common.{◌≡◌, ◌⊎◌, inl, inr, ◌<◌, ◌+◌, ◌-◌, ℕ, List, [], ◌∷◌, ◌++◌, length, get_or, take, drop, reverse, true, refl, sym, ap, ◌∙◌, subst, append_assoc, arith, length-drop}
use Rattle.std.specs.Prelude.{flat_map}
use Rattle.std.specs.List.{AllZip}
use Rattle.std.proofs.lemmas.List.{length-reverse, reverse-append, reverse-reverse, append-nil, take_all, drop_all, take_more}
use Rattle.std.proofs.lemmas.Grind.{flat_map-append}
use Rattle.call_fs.specs.Disk.{Disk}
use Rattle.call_fs.specs.Plan.{Plan}
use Rattle.crash_fs.specs.Crash.{Crash}
use Rattle.world_events.specs.declared.event.Event.{Event as Kept}
use Rattle.mail_world.specs.History.{Event}
use Rattle.mail_world.specs.History.Event.{Start, Act, Child, Generation, Report, End, Stop, Moment, Halt}
use Rattle.mail_world.specs.World.{Seen, Tells}
use Rattle.script_lines.specs.declared.line.Line.{Line}
use Rattle.script_traces.specs.Events.{kept_line, report_line}
use Rattle.scenario.specs.Playing.{IsPlaying, HasPlayed}
use Rattle.scenario.specs.inside.Playing.{HasPrinted}
use Rattle.scenario.specs.Deeds.{Deed, TellsDeed}
use Rattle.scenario.specs.Deeds.Deed.{Came, Fed}
use Rattle.scenario.specs.Traced.{event_line, deed_line, letter_in}
use Rattle.scenario.proofs.Deeds.{told_long}

zip_append : {A B : Type 0} (R : A → B → Type 0) (xs us : List A) (ys vs : List B) → AllZip R xs ys → AllZip R us vs → AllZip R (xs ++ us) (ys ++ vs)
zip_append R [] us [] vs a b = b
zip_append R [] us (y ∷ ys) vs a b = absurd a
zip_append R (x ∷ xs) us [] vs a b = absurd a
zip_append R (x ∷ xs) us (y ∷ ys) vs a b = (a.0, zip_append R xs us ys vs a.1 b)

zip_reverse : {A B : Type 0} (R : A → B → Type 0) (xs : List A) (ys : List B) → AllZip R xs ys → AllZip R (reverse xs) (reverse ys)
zip_reverse R [] [] a = tt
zip_reverse R [] (y ∷ ys) a = absurd a
zip_reverse R (x ∷ xs) [] a = absurd a
zip_reverse R (x ∷ xs) (y ∷ ys) a =
    subst (λ (l : List _). AllZip R l (reverse (y ∷ ys))) (sym (reverse-append (x ∷ []) xs))
    (subst (λ (l : List _). AllZip R (reverse xs ++ x ∷ []) l) (sym (reverse-append (y ∷ []) ys))
    (zip_append R (reverse xs) (x ∷ []) (reverse ys) (y ∷ []) (zip_reverse R xs ys a.1) (a.0, tt)))

zip_drop : {A B : Type 0} (R : A → B → Type 0) (xs : List A) (us vs : List B) → AllZip R xs (us ++ vs) → AllZip R (drop (length us) xs) vs
zip_drop R xs [] vs a = a
zip_drop R [] (u ∷ us) vs a = absurd a
zip_drop R (x ∷ xs) (u ∷ us) vs a = zip_drop R xs us vs a.1

-- the kept events after those from before tell what was added
pub added_told : (old new : List Kept) (h added : List Deed) → AllZip TellsDeed (reverse old) h → AllZip TellsDeed (reverse new) (added ++ h)
    → AllZip TellsDeed (drop (length old) new) (reverse added)
added_told old new h added before now =
    let turned : AllZip TellsDeed (reverse (reverse new)) (reverse (added ++ h)) = zip_reverse TellsDeed (reverse new) (added ++ h) now in
    let split : AllZip TellsDeed new (reverse h ++ reverse added) =
    subst (λ (l : List Kept). AllZip TellsDeed l (reverse h ++ reverse added)) (reverse-reverse new)
    (subst (λ (l : List Deed). AllZip TellsDeed (reverse (reverse new)) l) (reverse-append added h) turned) in
    let count : length (reverse h) ≡ length old = length-reverse h ∙ sym (told_long old h before) in
    subst (λ n. AllZip TellsDeed (drop n new) (reverse added)) count (zip_drop TellsDeed new (reverse h) (reverse added) split)

-- the line of an event, by the one that was kept
line_told : (k : Kept) (e : Event) → Tells k e → kept_line k ≡ event_line e
line_told k (Start a program) told = ap kept_line told
line_told k (Act a own w) told = ap kept_line told
line_told k (Child parent own a program) told = ap kept_line told
line_told k (Generation crew) told = ap kept_line told.1
line_told k (Report slot output) told = ap kept_line told.2 ∙ ap (λ (bytes : List ℕ). report_line slot (letter_in bytes)) (sym told.3)
line_told k (End a read ready status) told = ap kept_line told
line_told k (Stop a) told = ap kept_line told
line_told k (Moment m) told = ap kept_line told
line_told k (Halt how contents) told = ap kept_line told

deed_told : (k : Kept) (x : Deed) → TellsDeed k x → kept_line k ≡ deed_line x
deed_told k (Came e) told = line_told k e told
deed_told k (Fed a own c message envelope) told = ap kept_line told

pub lines_told : (events : List Kept) (deeds : List Deed) → AllZip TellsDeed events deeds → flat_map kept_line events ≡ flat_map deed_line deeds
lines_told [] [] told = refl
lines_told [] (x ∷ deeds) told = absurd told
lines_told (k ∷ events) [] told = absurd told
lines_told (k ∷ events) (x ∷ deeds) told =
    ap (λ (t : List ℕ). t ++ flat_map kept_line events) (deed_told k x told.0) ∙ ap (λ (t : List ℕ). deed_line x ++ t) (lines_told events deeds told.1)

-- the line of one event more
pub lines_more : (events : List Kept) (i : ℕ) (event : Kept) (start old new : List ℕ) → i < length events → event ≡ get_or events i event
    → old ≡ start ++ flat_map kept_line (take i events) → new ≡ old ++ kept_line event → new ≡ start ++ flat_map kept_line (take (i + 1) events)
lines_more events i event start old new inside is before one =
    let grown : take (i + 1) events ≡ take i events ++ event ∷ [] = take_more events i event inside ∙ ap (λ e. take i events ++ e ∷ []) (sym is) in
    let front = flat_map kept_line (take i events) in
    one
    ∙ ap (λ t. t ++ kept_line event) before
    ∙ append_assoc start front (kept_line event)
    ∙ ap (λ t. start ++ (front ++ t)) (sym (append-nil (kept_line event)))
    ∙ ap (λ t. start ++ t) (sym (ap (flat_map kept_line) grown ∙ flat_map-append kept_line (take i events) (event ∷ [])))

-- the events from a place on
pub to_the_end : (xs : List Kept) (n : ℕ) → take (length xs - n) (drop n xs) ≡ drop n xs
to_the_end xs n = take_all (length xs - n) (drop n xs) (let left = length-drop n xs in omega arith)

pub past_the_end : (xs : List Kept) (n : ℕ) → (length xs < n) ⊎ (length xs < length xs) → drop n xs ≡ []
past_the_end xs n (inl low) = drop_all n xs (omega arith)
past_the_end xs n (inr low) = absurd (omega arith)

-- what is printed of a line when events are traced
abbrev pub traced_lines : (d : Disk) (old new : Seen Crash) (line : Line) (own text : List ℕ) (plan : Plan) (h : List Deed) → IsPlaying d old plan h → HasPlayed d new line [] own plan h
    → text ≡ flat_map kept_line (drop (length old.events) new.events) ++ own → HasPrinted d new true line text plan h
traced_lines d old new line own text plan h playing played is = record {
  own = own;
  played = played;
  text_is = is ∙ ap (λ (t : List ℕ). t ++ own)
      (lines_told (drop (length old.events) new.events) (reverse played.events) (added_told old.events new.events h played.events playing.told played.playing.told));
}
