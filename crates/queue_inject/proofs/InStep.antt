-- What is true of an injector at any time.
use Rattle.std.proofs.Common.{◌≡◌, ℕ, ◌+◌, ◌-◌, ◌≤◌, min, List, [], length, take, Option, Some, None, Bool, true, false, refl, sym, ap, ◌∙◌, subst, arith, length-append}
use Rattle.std.specs.Prelude.{if◌then◌else◌, nat_lt}
use Rattle.std.proofs.lemmas.Bool.{ltb-true, ltb-false, leb-true}
use Rattle.std.proofs.lemmas.List.{take_all}
use Rattle.call_fs.specs.declared.calls.Answer.{Answer}
use Rattle.call_fs.specs.declared.calls.Answer.TheVariants.{Created, Done, Refused}
use Rattle.call_fs.specs.declared.calls.FsError.TheVariants.{NotThere, Exists}
use Rattle.queue_inject.specs.declared.injection.Part.{Part}
use Rattle.queue_inject.specs.declared.injection.Part.TheVariants.{Envelope}
use Rattle.queue_inject.specs.declared.intake.Verdict.{Verdict}
use Rattle.queue_inject.specs.declared.intake.Verdict.TheVariants as verdict
use Rattle.queue_inject.specs.declared.row.Row.{Row}
use Rattle.queue_inject.specs.declared.row.Row.TheVariants as at
use Rattle.queue_inject.specs.Texts.{limit}
use Rattle.queue_inject.specs.Table.{piece_size, goes_to, has_input}
use Rattle.queue_inject.specs.Machine.{Heard, Machine, asks_by, asks, room_by, room_of, is_call, row_now, late_now, call_now, due_now, unready, heard_after, with_message}
use Rattle.queue_inject.specs.Rows.{is_open, part_in, has_piece, past_text, row_by}
use Rattle.queue_inject.specs.inside.Fields.{CanCount, Counts, IsInStep}
use Rattle.queue_inject.proofs.Pieces.{either, past_text_by}
use Rattle.queue_inject.proofs.Kept.{asked_by}
use Rattle.queue_inject.proofs.Needs.{call_ready}

-- the bytes that were written before a piece is
counted : (v : Verdict) (h : Heard) (done : ℕ) → h.verdict ≡ v → has_piece v (length h.piece) ≡ true → CanCount h done → done ≤ h.fed + piece_size
counted verdict.Open h done is some k = let going = k.going (ap is_open is) in omega arith
counted verdict.Whole h done is some k = k.some (ltb-true 0 (length h.piece) some)
counted (verdict.Faulty status) h done is some k = let full = leb-true piece_size (length h.piece) some in k.some (omega arith)

full_if : (h : Heard) → is_open h.verdict ≡ true → min (piece_size - length h.piece) ((limit + 1) - h.fed) ≡ 0 → length h.piece ≤ piece_size → h.fed ≤ limit → length h.piece ≡ piece_size
full_if h going none short within = omega arith

on_piece : (h : Heard) (done : ℕ) → has_piece h.verdict (length h.piece) ≡ true → CanCount h done → (is_open h.verdict ≡ true → length h.piece ≡ piece_size) → h.fed ≤ limit + 1
    → CanCount (record h { piece = [] }) (done + piece_size)
on_piece h done some k full fed =
    let before = counted h.verdict h done refl some k in
    record {
      going = λ open_still. let going = k.going open_still in let all = full open_still in omega arith;
      some = λ none. absurd (omega arith);
      bound = omega arith;
    }

-- What is counted at a row whose call is made, for the row to which its answer leads
abbrev CountsNext : Row → Machine → Heard → Type 0
CountsNext (at.UnlinkPid seq n fd) m next = CanCount next 0
CountsNext (at.AppendMess n fd done) m next = CanCount next (done + piece_size)
CountsNext (at.CreateIntd n) m next = CanCount next 0
CountsNext (at.AppendTodo n fd done) m next = CanCount next (done + piece_size)
CountsNext row m next = Unit {0}

counts_on : (row : Row) (m : Machine) (next : Heard) (answer : Answer) → CountsNext row m next → Counts (goes_to row answer) next
counts_on (at.Create seq) m next (Created fd n) k = tt
counts_on (at.Create seq) m next (Refused Exists) k = either (λ r. Counts r next) (nat_lt seq 9) (at.Create (seq + 1)) (at.Failed 63) tt tt
counts_on (at.Create seq) m next _ k = tt
counts_on (at.LinkMess seq n fd) m next Done k = tt
counts_on (at.LinkMess seq n fd) m next _ k = tt
counts_on (at.UnlinkPid seq n fd) m next Done k = k
counts_on (at.UnlinkPid seq n fd) m next _ k = tt
counts_on (at.AppendMess n fd done) m next Done k = k
counts_on (at.AppendMess n fd done) m next _ k = tt
counts_on (at.SyncMess n fd) m next Done k = tt
counts_on (at.SyncMess n fd) m next _ k = tt
counts_on (at.CreateIntd n) m next (Created fd i) k = k
counts_on (at.CreateIntd n) m next _ k = tt
counts_on (at.AppendTodo n fd done) m next Done k = k
counts_on (at.AppendTodo n fd done) m next _ k = tt
counts_on (at.SyncTodo n fd) m next Done k = tt
counts_on (at.SyncTodo n fd) m next _ k = tt
counts_on (at.LinkTodo n) m next Done k = tt
counts_on (at.LinkTodo n) m next _ k = tt
counts_on (at.CleanIntd n status) m next Done k = tt
counts_on (at.CleanIntd n status) m next (Refused NotThere) k = tt
counts_on (at.CleanIntd n status) m next _ k = tt
counts_on (at.CleanMess n status) m next _ k = tt
counts_on at.Queued m next _ k = tt
counts_on (at.Failed status) m next _ k = tt

-- nothing is written yet
at_first : (next : Heard) → length next.piece ≤ piece_size → CanCount next 0
at_first next short = record { going = λ open_still. omega arith; some = λ some. omega arith; bound = omega arith }

module _ (m : Machine) (next : Heard) (k : IsInStep m) (none : room_of m ≡ 0) where
  full_message : (n done : ℕ) (fd : _) → m.row ≡ at.AppendMess n fd done → is_open m.heard.verdict ≡ true → length m.heard.piece ≡ piece_size
  full_message n done fd is going = full_if m.heard going (ap (λ r. room_by (asks_by true r) m.heard) (sym is) ∙ ap (λ t. room_by (asks_by t m.row) m.heard) (sym going) ∙ none) k.short (k.within going)

  full_todo : (n done : ℕ) (fd : _) → m.row ≡ at.AppendTodo n fd done → is_open m.heard.verdict ≡ true → length m.heard.piece ≡ piece_size
  full_todo n done fd is going = full_if m.heard going (ap (λ r. room_by (asks_by true r) m.heard) (sym is) ∙ ap (λ t. room_by (asks_by t m.row) m.heard) (sym going) ∙ none) k.short (k.within going)

  by_piece : (t : Bool) (done : ℕ) (row end : Row) (bad : ℕ → Row) → has_piece m.heard.verdict (length m.heard.piece) ≡ t → CanCount m.heard done → (is_open m.heard.verdict ≡ true → length m.heard.piece ≡ piece_size)
      → (CanCount (record m.heard { piece = [] }) (done + piece_size) → CountsNext row m (heard_after row m.uid m.pid m.heard)) → CountsNext end m (heard_after end m.uid m.pid m.heard) → ((status : ℕ) → CountsNext (bad status) m (heard_after (bad status) m.uid m.pid m.heard))
      → CountsNext (if t then row else past_text m.heard.verdict end bad) m (heard_after (if t then row else past_text m.heard.verdict end bad) m.uid m.pid m.heard)
  by_piece true done row end bad some can full on at_end at_bad = on (on_piece m.heard done some can full k.fed)
  by_piece false done row end bad some can full on at_end at_bad = past_text_by (λ r. CountsNext r m (heard_after r m.uid m.pid m.heard)) m.heard.verdict end bad at_end at_bad

  counts_at : (row : Row) → m.row ≡ row → Counts row m.heard → (length (heard_after (row_by m.heard.verdict (length m.heard.piece) row) m.uid m.pid m.heard).piece ≤ piece_size)
      → CountsNext (row_by m.heard.verdict (length m.heard.piece) row) m (heard_after (row_by m.heard.verdict (length m.heard.piece) row) m.uid m.pid m.heard)
  counts_at (at.UnlinkPid seq n fd) is can short = at_first m.heard short
  counts_at (at.CreateIntd n) is can short = at_first _ short
  counts_at (at.AppendMess n fd done) is can short =
      by_piece (has_piece m.heard.verdict (length m.heard.piece)) done (at.AppendMess n fd done) (at.SyncMess n fd) (λ status. at.CleanMess n status) refl can (full_message n done fd is) (λ on. on) tt (λ status. tt)
  counts_at (at.AppendTodo n fd done) is can short =
      by_piece (has_piece m.heard.verdict (length m.heard.piece)) done (at.AppendTodo n fd done) (at.SyncTodo n fd) (λ status. at.CleanIntd n status) refl can (full_todo n done fd is) (λ on. on) tt (λ status. tt)
  counts_at _ is can short = tt

-- what it holds after a call
fed_next : (row : Row) (m : Machine) → IsInStep m → (heard_after row m.uid m.pid m.heard).fed ≤ limit + 1
fed_next (at.CreateIntd n) m k = omega arith
fed_next (at.AppendMess n fd done) m k = k.fed
fed_next (at.AppendTodo n fd done) m k = k.fed
fed_next _ m k = k.fed

within_next : (row : Row) (m : Machine) → IsInStep m → is_open (heard_after row m.uid m.pid m.heard).verdict ≡ true → (heard_after row m.uid m.pid m.heard).fed ≤ limit
within_next (at.CreateIntd n) m k going = omega arith
within_next (at.AppendMess n fd done) m k going = k.within going
within_next (at.AppendTodo n fd done) m k going = k.within going
within_next _ m k going = k.within going

pub in_step_on : (m : Machine) (next : Heard) (answer : Answer) → IsInStep m → is_call (due_now m) ≡ true → next ≡ heard_after (row_now m) m.uid m.pid m.heard → length next.piece ≤ piece_size
    → IsInStep (record m { heard = next; row = goes_to (row_now m) answer; ready = unready })
in_step_on m next answer k due is short =
    let none : room_of m ≡ 0 = k.given (call_ready (has_input m.ready) (late_now m) (call_now m) due) in
    let after : Heard = heard_after (row_now m) m.uid m.pid m.heard in
    let short_after : length after.piece ≤ piece_size = subst (λ h. length h.piece ≤ piece_size) is short in
    subst (λ h. IsInStep (record m { heard = h; row = goes_to (row_now m) answer; ready = unready })) (sym is) (record {
      given = λ ready. absurd (cc);
      short = short_after;
      fed = fed_next (row_now m) m k;
      within = within_next (row_now m) m k;
      counts = counts_on (row_now m) m after answer (counts_at m after k none m.row refl k.counts short_after);
      small = omega arith;
    })

-- More of the envelope

fed_counts : (row : Row) (h n : Heard) (count : ℕ) → part_in row ≡ Some Envelope → is_open h.verdict ≡ true → n.fed ≡ h.fed + count → length n.piece ≤ length h.piece + count → Counts row h → Counts row n
fed_counts (at.Create seq) h n count of going fed piece k = absurd (cc)
fed_counts (at.LinkMess seq m fd) h n count of going fed piece k = absurd (cc)
fed_counts (at.UnlinkPid seq m fd) h n count of going fed piece k = absurd (cc)
fed_counts (at.AppendMess m fd done) h n count of going fed piece k = absurd (cc)
fed_counts (at.AppendTodo m fd done) h n count of going fed piece k =
    let before = k.going going in
    let bound = k.bound in
    record { going = λ still. omega arith; some = λ some. omega arith; bound = bound }
fed_counts _ h n count of going fed piece k = tt

room_still : (a b : Bool) (row : Row) (h n : Heard) (part : Part) → asks_by a row ≡ Some part → n.fed ≡ h.fed → length h.piece ≤ length n.piece → room_by (asks_by a row) h ≡ 0 → room_by (asks_by b row) n ≡ 0
room_still a false row h n part e fed piece none = refl
room_still true true row h n part e fed piece none = by (part_in row) none where
  by : (o : Option Part) → room_by o h ≡ 0 → room_by o n ≡ 0
  by None x = refl
  by (Some p) x = omega arith
room_still false true row h n part e fed piece none = absurd (cc)

room_bound : (o : Option Part) (h : Heard) (part : Part) → o ≡ Some part → (room_by o h ≤ piece_size - length h.piece) × (room_by o h ≤ (limit + 1) - h.fed)
room_bound None h part e = absurd (cc)
room_bound (Some p) h part e = (omega arith, omega arith)

pub in_step_fed : (m : Machine) (n : Heard) (bytes : List ℕ) → IsInStep m → asks m ≡ Some Envelope → length bytes ≤ room_of m → n.fed ≡ m.heard.fed + length bytes → (is_open n.verdict ≡ true → n.fed ≤ limit)
    → length m.heard.piece ≤ length n.piece → length n.piece ≤ length m.heard.piece + length bytes → IsInStep (record m { heard = n })
in_step_fed m n bytes k asked room fed within grows piece =
    let w = asked_by m.heard.verdict m.row Envelope asked in
    let bound = room_bound (asks m) m.heard Envelope asked in
    let low = bound.0 in
    let high = bound.1 in
    let size = k.short in
    let before = k.fed in
    record {
      given = λ ready. let none = k.given ready in room_still (is_open m.heard.verdict) (is_open n.verdict) m.row m.heard n Envelope asked (omega arith) grows none;
      short = omega arith;
      fed = omega arith;
      within = within;
      counts = fed_counts m.row m.heard n (length bytes) w.1 (ap is_open w.0) fed piece k.counts;
      small = omega arith;
    }

-- Fed as much as there was room for

full_part : (o : Option Part) (t : Bool) (row : Row) (h n : Heard) (count : ℕ) → asks_by t row ≡ o → room_by o h ≤ count → count ≤ room_by o h → length h.piece ≤ piece_size → n.fed ≡ h.fed + count
    → (is_open n.verdict ≡ true → n.fed ≤ limit) → (is_open n.verdict ≡ true → length n.piece ≡ length h.piece + count) → (part : Part) → o ≡ Some part → (u : Bool) → is_open n.verdict ≡ u → room_by (asks_by u row) n ≡ 0
full_part None t row h n count e room most short fed within kept part some u is = absurd (cc)
full_part (Some p) t row h n count e room most short fed within kept part some false is = refl
full_part (Some p) t row h n count e room most short fed within kept part some true is =
    let inside = within is in
    let all = kept is in
    by (part_in row) where
      by : (o : Option Part) → room_by o n ≡ 0
      by None = refl
      by (Some q) = omega arith

pub full_fed : (m : Machine) (n : Heard) (part : Part) (bytes : List ℕ) → asks m ≡ Some part → length m.heard.piece ≤ piece_size → length bytes ≤ room_of m → n.fed ≡ m.heard.fed + length bytes
    → (is_open n.verdict ≡ true → n.fed ≤ limit) → (is_open n.verdict ≡ true → length n.piece ≡ length m.heard.piece + length bytes) → room_of m ≤ length bytes → room_of (record m { heard = n }) ≡ 0
full_fed m n part bytes asked short most fed within kept room =
    full_part (asks m) (is_open m.heard.verdict) m.row m.heard n (length bytes) refl room most short fed within kept part asked (is_open n.verdict) refl

-- a message that goes on keeps all that it is fed
within_limit : (h : Heard) (bytes : List ℕ) (t : Bool) → nat_lt limit (h.fed + length bytes) ≡ t → is_open (if t then verdict.Faulty 31 else h.verdict) ≡ true → h.fed + length bytes ≤ limit
within_limit h bytes true over going = absurd (cc)
within_limit h bytes false over going = ltb-false limit (h.fed + length bytes) over

pub message_within : (h : Heard) (bytes : List ℕ) → is_open (with_message h bytes).verdict ≡ true → h.fed + length bytes ≤ limit
message_within h bytes going = within_limit h bytes (nat_lt limit (h.fed + length bytes)) refl going

pub message_kept : (h : Heard) (bytes : List ℕ) → is_open (with_message h bytes).verdict ≡ true → length (with_message h bytes).piece ≡ length h.piece + length bytes
message_kept h bytes going =
    let within = message_within h bytes going in
    length-append h.piece (take (limit - h.fed) bytes) ∙ ap (λ t. length h.piece + length t) (take_all (limit - h.fed) bytes (omega arith))
