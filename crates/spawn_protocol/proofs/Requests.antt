-- Reading requests is their grammar.
use Rattle.std.proofs.Common.{◌≡◌, ◌≢◌, ℕ, ◌+◌, ◌<◌, ◌≤◌, List, [], ◌∷◌, ◌++◌, length, refl, sym, ap, ◌∙◌, subst, arith, eqb, ltb}
use Rattle.std.specs.Prelude.{All, if◌then◌else◌, nat_lt, flat_map, Option, Some, None, Result, Ok, Err}
use Rattle.std.specs.List.{AllByRecursion}
use Rattle.std.proofs.lemmas.Bool.{cond_both, eqb-true, eqb-false, ltb-true, ltb-false, lt-ltb, le-ltb, ne_eqb, cond-true, cond-false}
use Rattle.std.proofs.lemmas.List.{append-nil, append_assoc, length_push, flat_map_more}
use Rattle.std.proofs.lemmas.List.Elements.{All-push, All-nil, All-cons, recursion_from_All}
use Rattle.spawn_protocol.specs.declared.request.Request.{Request}
use Rattle.spawn_protocol.specs.declared.request.CodecError.{CodecError}
use Rattle.spawn_protocol.specs.declared.request.CodecError.TheVariants.{TooLong, Memory}
use Rattle.spawn_protocol.specs.Request.{IsField, IsRequest, Start, bytes_to, HasFields, IsText, begun_of, IsTooLong, Reader, HasRead, eaten, given, in_field, step, Takes, field_text, request_text}
use Rattle.spawn_protocol.specs.Request.Start.{NoByte, InMess, InSender, InRecipient}
use Rattle.spawn_protocol.specs.Request.Reader.{Reading, Refused}
use Rattle.spawn_protocol.proofs.Runs.{run, run_quiet, run_some, run_one}

-- What a byte does.

nil_field : IsField []
nil_field = record { short = omega arith; plain = All-nil (λ b. b ≢ 0) }

push_field : (begun : List ℕ) (b : ℕ) → IsField begun → length begun < 4096 → b ≢ 0 → IsField (begun ++ b ∷ [])
push_field begun b h short plain = record {
  short = omega (arith, length_push begun b);
  plain = All-push (λ c. c ≢ 0) begun b h.plain plain;
}

pub no_text : HasRead [] [] (Reading NoByte)
no_text = record { text = refl; whole = All-nil IsRequest; begun = tt }

goes : (bytes : List ℕ) (requests : List Request) (start next : Start) (b : ℕ) → IsText bytes requests start → bytes_to next ≡ bytes_to start ++ b ∷ [] → HasFields next → HasRead (bytes ++ b ∷ []) (requests ++ []) (Reading next)
goes bytes requests start next b h e fields =
    subst (λ t. HasRead (bytes ++ b ∷ []) t (Reading next)) (sym (append-nil requests))
    (record {
      text = ap (λ t. t ++ b ∷ []) h.text ∙ append_assoc (flat_map request_text requests) (bytes_to start) (b ∷ []) ∙ ap (λ t. flat_map request_text requests ++ t) (sym e);
      whole = h.whole;
      begun = fields;
    })

gives : (bytes : List ℕ) (requests : List Request) (start : Start) (r : Request) (b : ℕ) → IsText bytes requests start → request_text r ≡ bytes_to start ++ b ∷ [] → IsRequest r → HasRead (bytes ++ b ∷ []) (requests ++ r ∷ []) (Reading NoByte)
gives bytes requests start r b h e whole = record {
  text = ap (λ t. t ++ b ∷ []) h.text ∙ append_assoc (flat_map request_text requests) (bytes_to start) (b ∷ []) ∙ ap (λ t. flat_map request_text requests ++ t) (sym e)
      ∙ flat_map_more request_text [] requests r ∙ sym (append-nil (flat_map request_text (requests ++ r ∷ [])));
  whole = All-push IsRequest requests r h.whole whole;
  begun = tt;
}

refuses : (bytes : List ℕ) (requests : List Request) (start : Start) (b : ℕ) → IsText bytes requests start → length (begun_of start) ≡ 4096 → b ≢ 0 → HasRead (bytes ++ b ∷ []) (requests ++ []) Refused
refuses bytes requests start b h full plain =
    subst (λ t. HasRead (bytes ++ b ∷ []) t Refused) (sym (append-nil requests))
    (record { before = bytes; start = start; byte = b; rest = []; split = refl; text = h; full = full; plain = plain })

too_long_stays : (bytes more : List ℕ) (requests : List Request) → IsTooLong bytes requests → IsTooLong (bytes ++ more) requests
too_long_stays bytes more requests h = record {
  before = h.before;
  start = h.start;
  byte = h.byte;
  rest = h.rest ++ more;
  split = ap (λ t. t ++ more) h.split ∙ append_assoc h.before (h.byte ∷ h.rest) more;
  text = h.text;
  full = h.full;
  plain = h.plain;
}

refused_more : (bytes : List ℕ) (requests : List Request) (b : ℕ) → IsTooLong bytes requests → HasRead (bytes ++ b ∷ []) (requests ++ []) Refused
refused_more bytes requests b h = subst (λ t. HasRead (bytes ++ b ∷ []) t Refused) (sym (append-nil requests)) (too_long_stays bytes (b ∷ []) requests h)

-- a reader after a step
abbrev After : List ℕ → List Request → ℕ → List Request × Reader → Type 0
After bytes requests b s = HasRead (bytes ++ b ∷ []) (requests ++ s.0) s.1

field_step : (bytes : List ℕ) (requests : List Request) (start more : Start) (b : ℕ) (ended : List Request × Reader) → IsText bytes requests start → IsField (begun_of start)
    → (b ≡ 0 → After bytes requests b ended) → (IsField (begun_of start ++ b ∷ []) → After bytes requests b ([], Reading more)) → After bytes requests b (in_field (begun_of start) b ended more)
field_step bytes requests start more b ended h field at_end on =
    cond_both (eqb b 0) ended (if nat_lt (length (begun_of start)) 4096 then ([], Reading more) else ([], Refused)) (After bytes requests b)
    (λ e. at_end (eqb-true b 0 e))
    (λ n. cond_both (ltb (length (begun_of start)) 4096) ([], Reading more) ([], Refused) (After bytes requests b)
    (λ t. on (push_field (begun_of start) b field (ltb-true (length (begun_of start)) 4096 t) (eqb-false b 0 n)))
    (λ t. let high = ltb-false (length (begun_of start)) 4096 t in let short = field.short in refuses bytes requests start b h (omega arith) (eqb-false b 0 n)))

pub step_more : (bytes : List ℕ) (requests : List Request) (reader : Reader) (b : ℕ) → HasRead bytes requests reader → HasRead (bytes ++ b ∷ []) (requests ++ (step reader b).0) (step reader b).1
step_more bytes requests (Reading NoByte) b h = goes bytes requests NoByte (InMess b []) b h refl nil_field
step_more bytes requests (Reading (InMess slot begun)) b h =
    field_step bytes requests (InMess slot begun) (InMess slot (begun ++ b ∷ [])) b ([], Reading (InSender slot begun [])) h h.begun
    (λ e. goes bytes requests (InMess slot begun) (InSender slot begun []) b h (simp append-nil (ap (λ n. slot ∷ (begun ++ n ∷ [])) (sym e))) (h.begun, nil_field))
    (λ field. goes bytes requests (InMess slot begun) (InMess slot (begun ++ b ∷ [])) b h refl field)
step_more bytes requests (Reading (InSender slot mess begun)) b h =
    field_step bytes requests (InSender slot mess begun) (InSender slot mess (begun ++ b ∷ [])) b ([], Reading (InRecipient slot mess begun [])) h h.begun.1
    (λ e. goes bytes requests (InSender slot mess begun) (InRecipient slot mess begun []) b h (simp (append-nil, append_assoc) (ap (λ n. slot ∷ (mess ++ (0 ∷ (begun ++ n ∷ [])))) (sym e))) (h.begun.0, h.begun.1, nil_field))
    (λ field. goes bytes requests (InSender slot mess begun) (InSender slot mess (begun ++ b ∷ [])) b h (simp append_assoc) (h.begun.0, field))
step_more bytes requests (Reading (InRecipient slot mess sender begun)) b h =
    field_step bytes requests (InRecipient slot mess sender begun) (InRecipient slot mess sender (begun ++ b ∷ [])) b (record { slot = slot; mess = mess; sender = sender; recipient = begun } ∷ [], Reading NoByte) h h.begun.2
    (λ e. gives bytes requests (InRecipient slot mess sender begun) (record { slot = slot; mess = mess; sender = sender; recipient = begun }) b h (simp append_assoc (ap (λ n. slot ∷ (mess ++ (0 ∷ (sender ++ (0 ∷ (begun ++ n ∷ [])))))) (sym e)))
    (record { mess = h.begun.0; sender = h.begun.1; recipient = h.begun.2 }))
    (λ field. goes bytes requests (InRecipient slot mess sender begun) (InRecipient slot mess sender (begun ++ b ∷ [])) b h (simp append_assoc) (h.begun.0, h.begun.1, field))
step_more bytes requests Refused b h = refused_more bytes requests b h

pub taken : (old new : Reader) (b : ℕ) (result : Result (Option Request) CodecError) → Takes old b result new → (bytes : List ℕ) (requests : List Request) → HasRead bytes requests old → HasRead (bytes ++ eaten result b) (requests ++ given result) new
taken old new b (Ok (Some request)) w bytes requests h = subst (After bytes requests b) w.0 (step_more bytes requests old b h)
taken old new b (Ok None) w bytes requests h = subst (After bytes requests b) w.0 (step_more bytes requests old b h)
taken old new b (Err TooLong) w bytes requests h = subst (After bytes requests b) w.0 (step_more bytes requests old b h)
taken old new b (Err Memory) w bytes requests h = subst (λ r. HasRead (bytes ++ []) (requests ++ []) r) (sym w.0) (subst (λ t. HasRead t (requests ++ []) old) (sym (append-nil bytes)) (subst (λ t. HasRead bytes t old) (sym (append-nil requests)) h))

-- What is so is read.

module _ (to : List ℕ → Start) (ended : List ℕ → List Request × Reader) (steps : (begun : List ℕ) (b : ℕ) → step (Reading (to begun)) b ≡ in_field begun b (ended begun) (to (begun ++ b ∷ []))) where
  on_plain : (begun : List ℕ) (b : ℕ) → length begun < 4096 → b ≢ 0 → step (Reading (to begun)) b ≡ ([], Reading (to (begun ++ b ∷ [])))
  on_plain begun b short plain =
      steps begun b
      ∙ cond-false (eqb b 0) (ended begun) (if nat_lt (length begun) 4096 then ([], Reading (to (begun ++ b ∷ []))) else ([], Refused)) (ne_eqb b 0 plain)
      ∙ cond-true (ltb (length begun) 4096) ([], Reading (to (begun ++ b ∷ []))) ([], Refused) (lt-ltb (length begun) 4096 short)

  field_by : (done begun more : List ℕ) → length done + length begun ≤ 4096 → AllByRecursion (λ b. b ≢ 0) begun → run step (Reading (to done)) (begun ++ more) ≡ run step (Reading (to (done ++ begun))) more
  field_by done [] more short plain = ap (λ d. run step (Reading (to d)) more) (sym (append-nil done))
  field_by done (b ∷ begun) more short plain =
      run_quiet step (Reading (to done)) (Reading (to (done ++ b ∷ []))) b (begun ++ more) (on_plain done b (omega arith) plain.0)
      ∙ field_by (done ++ b ∷ []) begun more (omega (arith, length_push done b)) plain.1
      ∙ ap (λ d. run step (Reading (to d)) more) (append_assoc done (b ∷ []) begun)

  pub run_field : (field more : List ℕ) → IsField field → run step (Reading (to [])) (field ++ more) ≡ run step (Reading (to field)) more
  run_field field more h = field_by [] field more (let short = h.short in omega arith) (recursion_from_All (λ b. b ≢ 0) field h.plain)

run_mess : (slot : ℕ) (mess more : List ℕ) → IsField mess → run step (Reading NoByte) (slot ∷ (field_text mess ++ more)) ≡ run step (Reading (InSender slot mess [])) more
run_mess slot mess more h = ap (run step (Reading (InMess slot []))) (append_assoc mess (0 ∷ []) more) ∙ run_field (InMess slot) (λ begun. ([], Reading (InSender slot begun []))) (λ _ _. refl) mess (0 ∷ more) h

run_sender : (slot : ℕ) (mess sender more : List ℕ) → IsField mess → IsField sender → run step (Reading NoByte) (slot ∷ (field_text mess ++ (field_text sender ++ more))) ≡ run step (Reading (InRecipient slot mess sender [])) more
run_sender slot mess sender more h k =
    run_mess slot mess (field_text sender ++ more) h
    ∙ ap (run step (Reading (InSender slot mess []))) (append_assoc sender (0 ∷ []) more)
    ∙ run_field (InSender slot mess) (λ begun. ([], Reading (InRecipient slot mess begun []))) (λ _ _. refl) sender (0 ∷ more) k

recipient_by : (slot : ℕ) (mess sender recipient more : List ℕ) → IsField recipient → run step (Reading (InRecipient slot mess sender [])) (recipient ++ more) ≡ run step (Reading (InRecipient slot mess sender recipient)) more
recipient_by slot mess sender recipient more h =
    run_field (InRecipient slot mess sender) (λ begun. (record { slot = slot; mess = mess; sender = sender; recipient = begun } ∷ [], Reading NoByte)) (λ _ _. refl) recipient more h

run_request : (r : Request) (more : List ℕ) → IsRequest r → run step (Reading NoByte) (request_text r ++ more) ≡ (r ∷ (run step (Reading NoByte) more).0, (run step (Reading NoByte) more).1)
run_request r more h =
    let parts : request_text r ++ more ≡ r.slot ∷ (field_text r.mess ++ (field_text r.sender ++ (r.recipient ++ 0 ∷ more))) = simp append_assoc in
    ap (run step (Reading NoByte)) parts
    ∙ run_sender r.slot r.mess r.sender (r.recipient ++ 0 ∷ more) h.mess h.sender
    ∙ recipient_by r.slot r.mess r.sender r.recipient (0 ∷ more) h.recipient

run_requests : (requests : List Request) (more : List ℕ) → AllByRecursion IsRequest requests → run step (Reading NoByte) (flat_map request_text requests ++ more) ≡ (requests ++ (run step (Reading NoByte) more).0, (run step (Reading NoByte) more).1)
run_requests [] more h = refl
run_requests (r ∷ requests) more h =
    ap (run step (Reading NoByte)) (append_assoc (request_text r) (flat_map request_text requests) more)
    ∙ run_request r (flat_map request_text requests ++ more) h.0
    ∙ ap (λ (s : List Request × Reader). let t : List Request × Reader = (r ∷ s.0, s.1) in t) (run_requests requests more h.1)

run_start : (start : Start) (more : List ℕ) → HasFields start → run step (Reading NoByte) (bytes_to start ++ more) ≡ run step (Reading start) more
run_start NoByte more h = refl
run_start (InMess slot begun) more h = run_field (InMess slot) (λ begun. ([], Reading (InSender slot begun []))) (λ _ _. refl) begun more h
run_start (InSender slot mess begun) more h =
    let parts : bytes_to (InSender slot mess begun) ++ more ≡ slot ∷ (field_text mess ++ (begun ++ more)) = simp append_assoc in
    ap (run step (Reading NoByte)) parts
    ∙ run_mess slot mess (begun ++ more) h.0
    ∙ run_field (InSender slot mess) (λ begun. ([], Reading (InRecipient slot mess begun []))) (λ _ _. refl) begun more h.1
run_start (InRecipient slot mess sender begun) more h =
    let parts : bytes_to (InRecipient slot mess sender begun) ++ more ≡ slot ∷ (field_text mess ++ (field_text sender ++ (begun ++ more))) = simp append_assoc in
    ap (run step (Reading NoByte)) parts
    ∙ run_sender slot mess sender (begun ++ more) h.0 h.1
    ∙ recipient_by slot mess sender begun more h.2

run_text : (bytes : List ℕ) (requests : List Request) (start : Start) (more : List ℕ) → IsText bytes requests start → run step (Reading NoByte) (bytes ++ more) ≡ (requests ++ (run step (Reading start) more).0, (run step (Reading start) more).1)
run_text bytes requests start more h =
    ap (λ t. run step (Reading NoByte) (t ++ more)) h.text
    ∙ ap (run step (Reading NoByte)) (append_assoc (flat_map request_text requests) (bytes_to start) more)
    ∙ run_requests requests (bytes_to start ++ more) (recursion_from_All IsRequest requests h.whole)
    ∙ ap (λ (s : List Request × Reader). let t : List Request × Reader = (requests ++ s.0, s.1) in t) (run_start start more h.begun)

run_refused : (more : List ℕ) → run step Refused more ≡ ([], Refused)
run_refused [] = refl
run_refused (b ∷ more) = run_refused more

full_field : (begun : List ℕ) (b : ℕ) (ended : List Request × Reader) (more : Start) → length begun ≡ 4096 → b ≢ 0 → in_field begun b ended more ≡ ([], Refused)
full_field begun b ended more full plain =
    cond-false (eqb b 0) ended (if nat_lt (length begun) 4096 then ([], Reading more) else ([], Refused)) (ne_eqb b 0 plain)
    ∙ cond-false (ltb (length begun) 4096) ([], Reading more) ([], Refused) (le-ltb (length begun) 4096 (omega arith))

full_step : (start : Start) (b : ℕ) → length (begun_of start) ≡ 4096 → b ≢ 0 → step (Reading start) b ≡ ([], Refused)
full_step NoByte b full plain = absurd (omega arith)
full_step (InMess slot begun) b full plain = full_field begun b ([], Reading (InSender slot begun [])) (InMess slot (begun ++ b ∷ [])) full plain
full_step (InSender slot mess begun) b full plain = full_field begun b ([], Reading (InRecipient slot mess begun [])) (InSender slot mess (begun ++ b ∷ [])) full plain
full_step (InRecipient slot mess sender begun) b full plain =
    full_field begun b (record { slot = slot; mess = mess; sender = sender; recipient = begun } ∷ [], Reading NoByte) (InRecipient slot mess sender (begun ++ b ∷ [])) full plain

pub read_runs : (bytes : List ℕ) (requests : List Request) (reader : Reader) → HasRead bytes requests reader → run step (Reading NoByte) bytes ≡ (requests, reader)
read_runs bytes requests (Reading start) h =
    ap (run step (Reading NoByte)) (sym (append-nil bytes))
    ∙ run_text bytes requests start [] h
    ∙ ap (λ (t : List Request). let s : List Request × Reader = (t, Reading start) in s) (append-nil requests)
read_runs bytes requests Refused h =
    ap (run step (Reading NoByte)) h.split
    ∙ run_text h.before requests h.start (h.byte ∷ h.rest) h.text
    ∙ ap (λ (s : List Request × Reader). let t : List Request × Reader = (requests ++ s.0, s.1) in t)
    (run_quiet step (Reading h.start) Refused h.byte h.rest (full_step h.start h.byte h.full h.plain) ∙ run_refused h.rest)
    ∙ ap (λ (t : List Request). let s : List Request × Reader = (t, Refused) in s) (append-nil requests)

pub some_reading : (bytes : List ℕ) → (requests : List Request) × (reader : Reader) × HasRead bytes requests reader
some_reading = run_some step HasRead (Reading NoByte) no_text step_more read_runs

pub one_reading : (bytes : List ℕ) (requests others : List Request) (reader other : Reader) → HasRead bytes requests reader → HasRead bytes others other → (requests ≡ others) × (reader ≡ other)
one_reading = run_one step HasRead (Reading NoByte) no_text step_more read_runs

pub never_text : (bytes more : List ℕ) (requests others : List Request) (start : Start) → IsTooLong bytes requests → ¬ (IsText (bytes ++ more) others start)
never_text bytes more requests others start h text =
    let same : Refused ≡ Reading start = (one_reading (bytes ++ more) requests others Refused (Reading start) (too_long_stays bytes more requests h) text).1 in
    cc

pub all_requests : (bytes : List ℕ) (requests : List Request) (reader : Reader) → HasRead bytes requests reader → All IsRequest requests
all_requests bytes requests (Reading start) h = h.whole
all_requests bytes requests Refused h = h.text.whole

text_back : (r : Request) (more : List ℕ) (requests : List Request) (start : Start) → IsRequest r → IsText more requests start → IsText (request_text r ++ more) (r ∷ requests) start
text_back r more requests start whole h = record {
  text = ap (λ t. request_text r ++ t) h.text ∙ sym (append_assoc (request_text r) (flat_map request_text requests) (bytes_to start));
  whole = All-cons IsRequest r requests whole h.whole;
  begun = h.begun;
}

pub read_back : (r : Request) (more : List ℕ) (requests : List Request) (reader : Reader) → IsRequest r → HasRead more requests reader → HasRead (request_text r ++ more) (r ∷ requests) reader
read_back r more requests (Reading start) whole h = text_back r more requests start whole h
read_back r more requests Refused whole h = record {
  before = request_text r ++ h.before;
  start = h.start;
  byte = h.byte;
  rest = h.rest;
  split = ap (λ t. request_text r ++ t) h.split ∙ sym (append_assoc (request_text r) h.before (h.byte ∷ h.rest));
  text = text_back r h.before requests h.start whole h.text;
  full = h.full;
  plain = h.plain;
}
