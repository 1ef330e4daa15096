-- Texts of reports: each is one report, and tells of a success only if a delivery ended with 0.
use Rattle.std.proofs.Common.{◌≡◌, ◌≢◌, ℕ, ◌+◌, ◌-◌, ◌<◌, List, [], ◌∷◌, ◌++◌, length, take, get_or, Bool, true, false, Option, Some, None, eqb, refl, sym, ap, ◌∙◌, subst, ⊎_elim, arith}
use Rattle.std.specs.Prelude.{◌==◌, ◌||◌, ◌&&◌, if◌then◌else◌, is_some, nat_lt, slice_get, unwrap_or}
use Rattle.std.specs.List.{AllByRecursion, before_first, list_all, position_or_len}
use Rattle.std.proofs.lemmas.Bool.{cases_Bool, cond-false, cond_both, eqb-false, eqb-true, ltb-true, ne_eqb}
use Rattle.std.proofs.lemmas.List.{get_or-take, length-append, length-take}
use Rattle.std.proofs.lemmas.List.Elements.{All-cons, All-from_get_or, All-from_recursion, All-head, All-nil, All-tail}
use Rattle.std.proofs.lemmas.List.Sums.{fails_before_first}
use Rattle.std.proofs.Math.Seq.{take-append_seam}
use Rattle.outside.specs.declared.spawner.Status.{Status}
use Rattle.outside.specs.declared.spawner.Status.TheVariants.{Ended, Crashed, Failed}
use Rattle.send_known.specs.declared.channel.Channel.{Channel}
use Rattle.send_known.specs.declared.channel.Channel.TheVariants as channel
use Rattle.spawn_protocol.specs.declared.report.Report.{Report}
use Rattle.spawn_protocol.specs.declared.request.Request.{Request}
use Rattle.spawn_protocol.specs.Report.{IsReport, numbered, report_text}
use Rattle.spawner_parts.specs.Asked.{IsSplit, domain_of, host_of}
use Rattle.spawner_parts.specs.Table.{Kind, bad_request, no_memory, unable}
use Rattle.spawner_parts.proofs.Hosts.{host_splits}
use Rattle.local_spawn.specs.declared.assign.Assignment.{Assignment}
use Rattle.local_spawn.specs.declared.delivery.Delivery.{Delivery}
use Rattle.local_spawn.specs.declared.finding.Found.{Found}
use Rattle.local_spawn.specs.Deliveries.{crashed, delivery_at, delivery_by, delivery_for, delivery_of, local_of, local_report, no_mailbox, refusal, trouble}
use Rattle.local_spawn.specs.Letters.{letter_by_code}
use Rattle.local_spawn.specs.Table.{local_kind}
use Rattle.local_spawn.specs.Users.{found_in}
use Rattle.remote_spawn.specs.Reports.{crashed as remote_crashed}
use Rattle.remote_spawn.specs.Table.{remote}
use Rattle.remote_spawn.proofs.ReportLaws.{report_plain}
use Rattle.program_law.specs.Post.Posts.{Done, IsDue, IsFor, Tells}
use Rattle.mail_bytes.specs.Texts.{HasNoNul}

-- A report whose letter and text are given as one

abbrev pub said : ℕ → List ℕ → Report
said slot [] = record { slot = slot; letter = 0; text = [] }
said slot (letter ∷ text) = record { slot = slot; letter = letter; text = text }

abbrev pub letter_in : List ℕ → ℕ
letter_in [] = 0
letter_in (letter ∷ text) = letter

pub said_slot : (slot : ℕ) (report : List ℕ) → (said slot report).slot ≡ slot
said_slot slot [] = refl
said_slot slot (letter ∷ text) = refl

pub said_letter : (slot : ℕ) (report : List ℕ) → (said slot report).letter ≡ letter_in report
said_letter slot [] = refl
said_letter slot (letter ∷ text) = refl

pub said_text : (slot : ℕ) (report : List ℕ) → HasNoNul report → numbered slot report ≡ report_text (said slot report)
said_text slot [] plain = refl
said_text slot (letter ∷ text) plain =
    ap (λ (t : List ℕ). slot ∷ t)
    (sym (cond-false (eqb letter 0) (0 ∷ []) (letter ∷ (text ++ 0 ∷ [])) (ne_eqb letter 0 (All-head (λ b. b ≢ 0) letter text plain))))

pub said_is : (slot : ℕ) (report : List ℕ) → HasNoNul report → IsReport (said slot report)
said_is slot [] plain = record { plain = All-nil (λ b. b ≢ 0); none = λ e. refl }
said_is slot (letter ∷ text) plain = record {
  plain = All-tail (λ b. b ≢ 0) letter text plain;
  none = λ zero. absurd (All-head (λ b. b ≢ 0) letter text plain zero);
}

-- What tells of no success

pub unwell : (c : Channel) (done : List Done) (last : ℕ → Option Request) (r : Report) → r.letter ≢ 75 → Tells c done last r
unwell channel.Local done last r other = λ e. absurd (other e)
unwell channel.Remote done last r other = tt

pub record IsAnswer (report : List ℕ) : Type 0 where
  pub plain : HasNoNul report
  pub unwell : letter_in report ≢ 75

pub due_said : (c : Channel) (done : List Done) (last : ℕ → Option Request) (slot : ℕ) (report : List ℕ) → HasNoNul report → Tells c done last (said slot report)
    → IsDue c done last (numbered slot report)
due_said c done last slot report plain tells = record { it = said slot report; text = said_text slot report plain; is = said_is slot report plain; tells = tells }

pub due_answer : (c : Channel) (done : List Done) (last : ℕ → Option Request) (slot : ℕ) (report : List ℕ) → IsAnswer report → IsDue c done last (numbered slot report)
due_answer c done last slot report h =
    due_said c done last slot report h.plain (unwell c done last (said slot report) (λ e. h.unwell (sym (said_letter slot report) ∙ e)))

-- The texts that are always the same

plain_words : (text : List ℕ) → list_all (λ b. nat_lt 0 b) text ≡ true → AllByRecursion (λ b. b ≢ 0) text
plain_words [] e = tt
plain_words (b ∷ text) e =
    let here = ltb-true 0 b (and_left (nat_lt 0 b) (list_all (λ b. nat_lt 0 b) text) e) in
    (λ zero. absurd (omega arith), plain_words text (and_right (nat_lt 0 b) (list_all (λ b. nat_lt 0 b) text) e))
  where
    and_left : (p q : Bool) → (p && q) ≡ true → p ≡ true
    and_left true q e = refl
    and_left false q e = absurd (cc)

    and_right : (p q : Bool) → (p && q) ≡ true → q ≡ true
    and_right true q e = e
    and_right false q e = absurd (cc)

pub words : (text : List ℕ) → list_all (λ b. nat_lt 0 b) text ≡ true → HasNoNul text
words text e = All-from_recursion (λ b. b ≢ 0) text (plain_words text e)

bad_is : IsAnswer bad_request
bad_is = record { plain = words bad_request refl; unwell = eqb-false 90 75 refl }

pub unable_is : IsAnswer unable
unable_is = record { plain = words unable refl; unwell = eqb-false 90 75 refl }

pub memory_is : IsAnswer no_memory
memory_is = record { plain = words no_memory refl; unwell = eqb-false 90 75 refl }

pub bad_due : (c : Channel) (done : List Done) (last : ℕ → Option Request) (slot : ℕ) → IsDue c done last (numbered slot bad_request)
bad_due c done last slot = due_answer c done last slot bad_request bad_is

crashed_is : IsAnswer crashed
crashed_is = record { plain = words crashed refl; unwell = eqb-false 90 75 refl }

remote_crashed_is : IsAnswer remote_crashed
remote_crashed_is = record { plain = words remote_crashed refl; unwell = eqb-false 90 75 refl }

pub refusal_is : (users : Option (List Assignment)) → IsAnswer (refusal users)
refusal_is None = record { plain = words trouble refl; unwell = eqb-false 90 75 refl }
refusal_is (Some lines) = record { plain = words no_mailbox refl; unwell = eqb-false 68 75 refl }

-- What a local delivery printed, and its letter

pub first_plain : (output : List ℕ) → HasNoNul (before_first (λ b. b == 0) output)
first_plain output =
    let at : ℕ = position_or_len (λ b. eqb b 0) output in
    All-from_get_or (λ b. b ≢ 0) (take at output) 0
    (λ k lt same. let near : k < at = omega (arith, length-take at output, lt) in
    eqb-false (get_or output k 0) 0 (fails_before_first (λ b. eqb b 0) output k 0 near) (sym (get_or-take at output k 0 near) ∙ same))

abbrev is_soft : ℕ → Bool
is_soft code = code == 51 || (code == 71 || (code == 74 || (code == 75 || code == 111)))

some_letter : (code : ℕ) → letter_by_code code ≢ 0
some_letter code =
    cond_both (eqb code 0) 75 (if is_soft code then 90 else 68) (λ l. l ≢ 0)
    (λ _. eqb-false 75 0 refl)
    (λ _. cond_both (is_soft code) 90 68 (λ l. l ≢ 0) (λ _. eqb-false 90 0 refl) (λ _. eqb-false 68 0 refl))

pub zero_tells : (code : ℕ) → letter_by_code code ≡ 75 → code ≡ 0
zero_tells code e = ⊎_elim
    (λ zero. eqb-true code 0 zero)
    (λ other. absurd (by (is_soft code) (sym (cond-false (eqb code 0) 75 (if is_soft code then 90 else 68) other) ∙ e)))
    (cases_Bool (eqb code 0))
  where
    by : (b : Bool) → ◌≡◌ {A = ℕ} (if b then 90 else 68) 75 → ⊥
    by true e = omega (arith, e)
    by false e = omega (arith, e)

pub local_plain : (status : Status) (output : List ℕ) → HasNoNul (local_report status output)
local_plain (Ended code) output = All-cons (λ b. b ≢ 0) (letter_by_code code) (before_first (λ b. b == 0) output) (some_letter code) (first_plain output)
local_plain Crashed output = crashed_is.plain
local_plain Failed output = crashed_is.plain

pub local_well : (status : Status) (output : List ℕ) → letter_in (local_report status output) ≡ 75 → status ≡ Ended 0
local_well (Ended code) output e = ap Ended (zero_tells code e)
local_well Crashed output e = absurd (crashed_is.unwell e)
local_well Failed output e = absurd (crashed_is.unwell e)

-- How a spawner speaks: its reports are plain, and of a local one a success comes only of the end with 0.
pub record Speaks (c : Channel) (kind : Kind) : Type 0 where
  pub unstarted : IsAnswer kind.unstarted
  pub plain : (status : Status) (output : List ℕ) → HasNoNul (kind.ended status output)
  pub well : c ≡ channel.Local → (status : Status) (output : List ℕ) → letter_in (kind.ended status output) ≡ 75 → status ≡ Ended 0

pub local_speaks : (users : Option (List Assignment)) → Speaks channel.Local (local_kind users)
local_speaks users = record { unstarted = crashed_is; plain = local_plain; well = λ same. local_well }

pub remote_speaks : Speaks channel.Remote remote
remote_speaks = record { unstarted = remote_crashed_is; plain = λ status output. (report_plain status output).1; well = λ same. absurd (cc) }

-- The delivery of a request is for its recipient

local_is : (address local host : List ℕ) → host_of address ≡ Some host → IsSplit address local host → local_of address ≡ local
local_is address local host e s =
    ap (λ (o : Option (List ℕ)). take (length address - (length (unwrap_or o []) + 1)) address) e
    ∙ ap (λ a. take (length a - (length host + 1)) a) s.split
    ∙ ap (λ n. take n (local ++ 64 ∷ host)) short
    ∙ take-append_seam local (64 ∷ host)
  where
    short : length (local ++ 64 ∷ host) - (length host + 1) ≡ length local
    short = omega (arith, length-append local (64 ∷ host))

split_by : (address : List ℕ) (o : Option (List ℕ)) → host_of address ≡ o → is_some o ≡ true → local_of address ++ 64 ∷ domain_of address ≡ address
split_by address None is some = absurd (cc)
split_by address (Some host) is some =
    let s = host_splits address host is in
    ap (λ t. t ++ 64 ∷ domain_of address) (local_is address s.0 host is s.1)
    ∙ ap (λ (o : Option (List ℕ)). s.0 ++ 64 ∷ unwrap_or o []) is
    ∙ sym s.1.split

pub split_is : (address : List ℕ) → is_some (host_of address) ≡ true → local_of address ++ 64 ∷ domain_of address ≡ address
split_is address some = split_by address (host_of address) refl some

none_some : (d : Delivery) → ◌≡◌ {A = Option Delivery} None (Some d) → ⊥
none_some d e = cc

same_some : (d e : Delivery) → ◌≡◌ {A = Option Delivery} (Some d) (Some e) → d ≡ e
same_some d e same = cc

module _ (r : Request) (host : is_some (host_of r.recipient) ≡ true) where
  made_for : (a : Assignment) (matched : ℕ) → IsFor (delivery_by a matched r).words r
  made_for a matched = record { sender = refl; recipient = split_is r.recipient host }

  at_for : (matched : ℕ) (o : Option Assignment) (d : Delivery) → delivery_at matched r o ≡ Some d → IsFor d.words r
  at_for matched None d e = absurd (none_some d e)
  at_for matched (Some a) d e = subst (λ (x : Delivery). IsFor x.words r) (same_some (delivery_by a matched r) d e) (made_for a matched)

  of_for : (lines : List Assignment) (o : Option Found) (d : Delivery) → delivery_of lines r o ≡ Some d → IsFor d.words r
  of_for lines None d e = absurd (none_some d e)
  of_for lines (Some found) d e = at_for found.rest (slice_get lines found.line) d e

  pub delivery_is_for : (users : Option (List Assignment)) (d : Delivery) → delivery_for users r ≡ Some d → IsFor d.words r
  delivery_is_for None d e = absurd (none_some d e)
  delivery_is_for (Some lines) d e = of_for lines (found_in lines (local_of r.recipient)) d e
