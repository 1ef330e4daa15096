-- An envelope that is fed byte by byte.
use Rattle.std.proofs.Common.{◌≡◌, ◌≢◌, ℕ, ◌+◌, ◌<◌, ◌≤◌, List, [], ◌∷◌, ◌++◌, length, take, drop, get_or, Option, Some, None, Bool, true, false, refl, sym, ap, ◌∙◌, subst, ⊎_elim, arith, eqb, ltb, length-append}
use Rattle.std.specs.Prelude.{slice_get, if◌then◌else◌}
use Rattle.std.proofs.lemmas.List.{take_all, take_more, take-append-le, drop-append-le, get_or_append_left, append-nil, append_assoc, length_push}
use Rattle.std.proofs.lemmas.Bool.{cases_lt, cases_Bool, lt-ltb, le-ltb}
use Rattle.std.proofs.lemmas.Option.{slice_get_past, slice_get-get_or}
use Rattle.std.proofs.Math.Seq.{get_or-append_seam}
use Rattle.envelope_records.specs.declared.envelope.EnvFault.TheVariants.{Format, TooLong, EndEarly}
use Rattle.envelope_records.specs.declared.envelope.EnvStep.{EnvStep}
use Rattle.queue_inject.specs.declared.intake.Verdict.{Verdict}
use Rattle.queue_inject.specs.declared.intake.Verdict.TheVariants as verdict
use Rattle.envelope_records.specs.Envelope.{Stage, Step, Reading, bytes_to, records_of, in_address, step, read_on, read_more, read_envelope, step_of, HasRead}
use Rattle.envelope_records.specs.Envelope.Stage.{Begin, InSender, Between, InRecipient}
use Rattle.envelope_records.specs.Envelope.Step.{Goes, Ends, Fails}
use Rattle.envelope_records.specs.Envelope.Reading.{Whole, Open, Broken}
use Rattle.queue_inject.specs.Texts.{limit, past_limit}
use Rattle.queue_inject.specs.Machine.{Heard}
use Rattle.queue_inject.specs.Rows.{verdict_after, is_open}
use Rattle.queue_inject.specs.Stands.{verdict_by, taken_by, verdict_of, taken, Reads}
use Rattle.envelope_records.proofs.Envelopes.{read_envelope-append, sound_as}

-- The limit is any number here.

abbrev verdict_at : ℕ → List ℕ → Verdict
verdict_at most read = verdict_by (read_envelope (take most read)) (slice_get read most)

abbrev taken_at : ℕ → List ℕ → List ℕ
taken_at most read = taken_by (read_envelope (take most read))

pub is_open_tells : (v : Verdict) → is_open v ≡ true → v ≡ verdict.Open
is_open_tells verdict.Open e = refl
is_open_tells verdict.Whole e = absurd (cc)
is_open_tells (verdict.Faulty status) e = absurd (cc)

pub is_closed_tells : (v : Verdict) → is_open v ≡ false → v ≢ verdict.Open
is_closed_tells verdict.Open e same = absurd (cc)
is_closed_tells verdict.Whole e same = absurd (cc)
is_closed_tells (verdict.Faulty status) e same = absurd (cc)

-- an open verdict comes of a start of an envelope that is within the limit
pub record IsOpen (most : ℕ) (read : List ℕ) : Type 0 where
  pub stage : Stage
  pub is : read_envelope read ≡ Open stage
  pub within : length read ≤ most

open_by : (r : Reading) (next : Option ℕ) → verdict_by r next ≡ verdict.Open → (next ≡ None) × ((stage : Stage) × (r ≡ Open stage))
open_by (Whole sender recipients) next e = absurd (cc)
open_by (Broken before fault) next e = absurd (cc)
open_by (Open stage) None e = (refl, (stage, refl))
open_by (Open stage) (Some b) e = absurd (cc)

pub open_at : (most : ℕ) (read : List ℕ) → verdict_at most read ≡ verdict.Open → IsOpen most read
open_at most read e =
    let w = open_by (read_envelope (take most read)) (slice_get read most) e in
    ⊎_elim
    (λ inside. let there = slice_get-get_or read most 0 inside in absurd (cc (there, w.0)))
    (λ within. record { stage = w.1.0; is = ap read_envelope (sym (take_all most read within)) ∙ w.1.1; within = within })
    (cases_lt most (length read))

pub open_taken : (most : ℕ) (read : List ℕ) → IsOpen most read → taken_at most read ≡ read
open_taken most read o =
    ap (λ t. taken_by (read_envelope t)) (take_all most read o.within) ∙ ap taken_by o.is ∙ sym (sound_as read (Open o.stage) o.is).text

-- what the reader tells of a byte, and what comes of it

after_within : (stage : Stage) (s : Step) → verdict_by (read_on stage s (λ next. Open next)) None ≡ verdict_after (step_of (read_on stage s (λ next. Open next))) true
after_within stage (Goes Begin) = refl
after_within stage (Goes (InSender begun)) = refl
after_within stage (Goes (Between sender [])) = refl
after_within stage (Goes (Between sender (recipient ∷ recipients))) = refl
after_within stage (Goes (InRecipient sender recipients begun)) = refl
after_within stage (Ends sender recipients) = refl
after_within stage (Fails Format) = refl
after_within stage (Fails TooLong) = refl
after_within stage (Fails EndEarly) = refl

after_past : (stage : Stage) (s : Step) → verdict.Faulty (past_limit s) ≡ verdict_after (step_of (read_on stage s (λ next. Open next))) false
after_past stage (Goes Begin) = refl
after_past stage (Goes (InSender begun)) = refl
after_past stage (Goes (Between sender [])) = refl
after_past stage (Goes (Between sender (recipient ∷ recipients))) = refl
after_past stage (Goes (InRecipient sender recipients begun)) = refl
after_past stage (Ends sender recipients) = refl
after_past stage (Fails Format) = refl
after_past stage (Fails TooLong) = refl
after_past stage (Fails EndEarly) = refl

-- only between records an envelope ends
no_end : (t u : Bool) (a c : Stage) (sender : List ℕ) (recipients : List (List ℕ)) → (if t then Goes a else (if u then Goes c else Fails TooLong)) ≡ Ends sender recipients → ⊥
no_end true u a c sender recipients e = cc
no_end false true a c sender recipients e = cc
no_end false false a c sender recipients e = cc

no_end_address : (begun : List ℕ) (b : ℕ) (a c : Stage) (sender : List ℕ) (recipients : List (List ℕ)) → in_address begun b a c ≡ Ends sender recipients → ⊥
no_end_address begun b a c sender recipients e = no_end (eqb b 0) (ltb (length begun) 1002) a c sender recipients e

no_begin : (t : Bool) (a : Stage) (sender : List ℕ) (recipients : List (List ℕ)) → (if t then Goes a else Fails Format) ≡ Ends sender recipients → ⊥
no_begin true a sender recipients e = cc
no_begin false a sender recipients e = cc

which : (t u : Bool) (a : Stage) (s o : List ℕ) (r q : List (List ℕ)) → (if t then Ends s r else (if u then Goes a else Fails Format)) ≡ Ends o q → (s ≡ o) × (r ≡ q)
which true u a s o r q e = (cc, cc)
which false true a s o r q e = absurd (cc)
which false false a s o r q e = absurd (cc)

pub ends_at : (stage : Stage) (b : ℕ) (sender : List ℕ) (recipients : List (List ℕ)) → step stage b ≡ Ends sender recipients → records_of sender recipients ≡ bytes_to stage
ends_at Begin b sender recipients e = absurd (no_begin (eqb b 70) (InSender []) sender recipients e)
ends_at (InSender begun) b sender recipients e = absurd (no_end_address begun b (Between begun []) (InSender (begun ++ b ∷ [])) sender recipients e)
ends_at (Between s r) b sender recipients e = let w = which (eqb b 0) (eqb b 84) (InRecipient s r []) s sender r recipients e in ap (λ x. records_of x recipients) (sym w.0) ∙ ap (records_of s) (sym w.1)
ends_at (InRecipient s r begun) b sender recipients e = absurd (no_end_address begun b (Between s (r ++ begun ∷ [])) (InRecipient s r (begun ++ b ∷ [])) sender recipients e)

-- what is taken of an open envelope and one byte more
taken_on : (stage : Stage) (read : List ℕ) (b : ℕ) (s : Step) → bytes_to stage ≡ read → step stage b ≡ s → read_envelope (read ++ b ∷ []) ≡ read_on stage s (λ next. Open next)
    → taken_by (read_on stage s (λ next. Open next)) ≡ (if is_open (verdict_by (read_on stage s (λ next. Open next)) None) then read ++ b ∷ [] else read)
taken_on stage read b (Goes next) at e on = sym (sound_as (read ++ b ∷ []) (Open next) on).text
taken_on stage read b (Ends sender recipients) at e on = ends_at stage b sender recipients e ∙ at
taken_on stage read b (Fails fault) at e on = at

-- one byte more, while the envelope is open

pub record OnByte (most : ℕ) (read : List ℕ) (b : ℕ) : Type 0 where
  pub verdict_is : verdict_at most (read ++ b ∷ []) ≡ verdict_after (step_of (read_envelope (read ++ b ∷ []))) (ltb (length read) most)
  pub taken_is : taken_at most (read ++ b ∷ []) ≡ (if is_open (verdict_at most (read ++ b ∷ [])) then read ++ b ∷ [] else read)

pub on_byte : (most : ℕ) (read : List ℕ) (b : ℕ) → IsOpen most read → OnByte most read b
on_byte most read b o =
    let on : read_envelope (read ++ b ∷ []) ≡ read_on o.stage (step o.stage b) (λ next. Open next) = read_envelope-append read (b ∷ []) ∙ ap (λ r. read_more r (b ∷ [])) o.is in
    let at : bytes_to o.stage ≡ read = sym (sound_as read (Open o.stage) o.is).text in
    let longer : length (read ++ b ∷ []) ≡ length read + 1 = length_push read b in
    ⊎_elim
    (λ inside.
    let front : take most (read ++ b ∷ []) ≡ read ++ b ∷ [] = take_all most (read ++ b ∷ []) (omega arith) in
    let none : slice_get (read ++ b ∷ []) most ≡ None = slice_get_past (read ++ b ∷ []) most (omega arith) in
    let is : verdict_at most (read ++ b ∷ []) ≡ verdict_by (read_on o.stage (step o.stage b) (λ next. Open next)) None =
    ap (λ t. verdict_by (read_envelope t) (slice_get (read ++ b ∷ []) most)) front ∙ ap (verdict_by (read_envelope (read ++ b ∷ []))) none ∙ ap (λ r. verdict_by r None) on in
    record {
      verdict_is = is ∙ after_within o.stage (step o.stage b) ∙ ap (λ r. verdict_after (step_of r) true) (sym on) ∙ ap (verdict_after (step_of (read_envelope (read ++ b ∷ [])))) (sym (lt-ltb (length read) most inside));
      taken_is = ap (λ t. taken_by (read_envelope t)) front ∙ ap taken_by on ∙ taken_on o.stage read b (step o.stage b) at refl on
          ∙ ap (λ v. if is_open v then read ++ b ∷ [] else read) (sym is);
    })
    (λ past.
    let front : take most (read ++ b ∷ []) ≡ read = take-append-le most read (b ∷ []) past ∙ take_all most read o.within in
    let here : most ≡ length read = let within = o.within in omega arith in
    let some : slice_get (read ++ b ∷ []) most ≡ Some b =
    slice_get-get_or (read ++ b ∷ []) most 0 (omega arith) ∙ ap Some (ap (λ k. get_or (read ++ b ∷ []) k 0) here ∙ get_or-append_seam read b [] 0) in
    let is : verdict_at most (read ++ b ∷ []) ≡ verdict.Faulty (past_limit (step o.stage b)) =
    ap (λ t. verdict_by (read_envelope t) (slice_get (read ++ b ∷ []) most)) front ∙ ap (verdict_by (read_envelope read)) some ∙ ap (λ r. verdict_by r (Some b)) o.is in
    record {
      verdict_is = is ∙ after_past o.stage (step o.stage b) ∙ ap (λ r. verdict_after (step_of r) false) (sym on) ∙ ap (verdict_after (step_of (read_envelope (read ++ b ∷ [])))) (sym (le-ltb (length read) most past));
      taken_is = ap (λ t. taken_by (read_envelope t)) front ∙ ap taken_by o.is ∙ at ∙ ap (λ v. if is_open v then read ++ b ∷ [] else read) (sym is);
    })
    (cases_lt (length read) most)

-- if it is no longer open

closed_by : (r : Reading) (b : ℕ) (next : Option ℕ) → verdict_by r None ≢ verdict.Open → (verdict_by (read_more r (b ∷ [])) next ≡ verdict_by r None) × (taken_by (read_more r (b ∷ [])) ≡ taken_by r) × (verdict_by r next ≡ verdict_by r None)
closed_by (Whole sender recipients) b next far = (refl, refl, refl)
closed_by (Broken before fault) b next far = (refl, refl, refl)
closed_by (Open stage) b next far = absurd (far refl)

pub record Same (most : ℕ) (read : List ℕ) (b : ℕ) : Type 0 where
  pub verdict_is : verdict_at most (read ++ b ∷ []) ≡ verdict_at most read
  pub taken_is : taken_at most (read ++ b ∷ []) ≡ taken_at most read

closed_past : (most : ℕ) (read : List ℕ) (b : ℕ) → most < length read → Same most read b
closed_past most read b past =
    let longer : length (read ++ b ∷ []) ≡ length read + 1 = length_push read b in
    let front : take most (read ++ b ∷ []) ≡ take most read = take-append-le most read (b ∷ []) (omega arith) in
    let next : slice_get (read ++ b ∷ []) most ≡ slice_get read most =
    slice_get-get_or (read ++ b ∷ []) most 0 (omega arith) ∙ ap Some (get_or_append_left read (b ∷ []) 0 most past) ∙ sym (slice_get-get_or read most 0 past) in
    record {
      verdict_is = ap (λ t. verdict_by (read_envelope t) (slice_get (read ++ b ∷ []) most)) front ∙ ap (verdict_by (read_envelope (take most read))) next;
      taken_is = ap (λ t. taken_by (read_envelope t)) front;
    }

closed_within : (most : ℕ) (read : List ℕ) (b : ℕ) → length read ≤ most → verdict_at most read ≢ verdict.Open → Same most read b
closed_within most read b within far =
    let longer : length (read ++ b ∷ []) ≡ length read + 1 = length_push read b in
    let whole : take most read ≡ read = take_all most read within in
    let base : verdict_at most read ≡ verdict_by (read_envelope read) None =
    ap (λ t. verdict_by (read_envelope t) (slice_get read most)) whole ∙ ap (verdict_by (read_envelope read)) (slice_get_past read most within) in
    let closed = closed_by (read_envelope read) b (slice_get (read ++ b ∷ []) most) (λ e. far (base ∙ e)) in
    let on : read_envelope (read ++ b ∷ []) ≡ read_more (read_envelope read) (b ∷ []) = read_envelope-append read (b ∷ []) in
    ⊎_elim
    (λ inside.
    let front : take most (read ++ b ∷ []) ≡ read ++ b ∷ [] = take_all most (read ++ b ∷ []) (omega arith) in
    record {
      verdict_is = ap (λ t. verdict_by (read_envelope t) (slice_get (read ++ b ∷ []) most)) front
          ∙ ap (λ r. verdict_by r (slice_get (read ++ b ∷ []) most)) on ∙ closed.0 ∙ sym base;
      taken_is = ap (λ t. taken_by (read_envelope t)) front ∙ ap taken_by on ∙ closed.1 ∙ ap (λ t. taken_by (read_envelope t)) (sym whole);
    })
    (λ past.
    let front : take most (read ++ b ∷ []) ≡ read = take-append-le most read (b ∷ []) past ∙ whole in
    record {
      verdict_is = ap (λ t. verdict_by (read_envelope t) (slice_get (read ++ b ∷ []) most)) front ∙ closed.2 ∙ sym base;
      taken_is = ap (λ t. taken_by (read_envelope t)) front ∙ ap (λ t. taken_by (read_envelope t)) (sym whole);
    })
    (cases_lt (length read) most)

pub closed_byte : (most : ℕ) (read : List ℕ) (b : ℕ) → verdict_at most read ≢ verdict.Open → Same most read b
closed_byte most read b far = ⊎_elim (λ past. closed_past most read b past) (λ within. closed_within most read b within far) (cases_lt most (length read))

-- more bytes

pub record SameMore (most : ℕ) (read more : List ℕ) : Type 0 where
  pub verdict_is : verdict_at most (read ++ more) ≡ verdict_at most read
  pub taken_is : taken_at most (read ++ more) ≡ taken_at most read

-- if it is no longer open, nothing changes
pub closed_more : (most : ℕ) (read more : List ℕ) → verdict_at most read ≢ verdict.Open → SameMore most read more
closed_more most read [] far = record { verdict_is = ap (verdict_at most) (append-nil read); taken_is = ap (taken_at most) (append-nil read) }
closed_more most read (b ∷ more) far =
    let one = closed_byte most read b far in
    let rest = closed_more most (read ++ b ∷ []) more (λ e. far (sym one.verdict_is ∙ e)) in
    let split : read ++ b ∷ more ≡ (read ++ b ∷ []) ++ more = sym (append_assoc read (b ∷ []) more) in
    record {
      verdict_is = ap (verdict_at most) split ∙ rest.verdict_is ∙ one.verdict_is;
      taken_is = ap (taken_at most) split ∙ rest.taken_is ∙ one.taken_is;
    }

-- what is taken comes first in what is taken of more
abbrev IsFront : List ℕ → List ℕ → Type 0
IsFront front whole = (rest : List ℕ) × (whole ≡ front ++ rest)

front_push : (t : Bool) (read whole : List ℕ) (b : ℕ) → IsFront (if t then read ++ b ∷ [] else read) whole → IsFront read whole
front_push true read whole b f = (b ∷ f.0, f.1 ∙ append_assoc read (b ∷ []) f.0)
front_push false read whole b f = f

pub taken_more : (most : ℕ) (read more : List ℕ) → IsFront (taken_at most read) (taken_at most (read ++ more))
taken_more most read [] = ([], ap (taken_at most) (append-nil read) ∙ sym (append-nil (taken_at most read)))
taken_more most read (b ∷ more) = ⊎_elim
    (λ begun.
    let o = open_at most read (is_open_tells (verdict_at most read) begun) in
    let on = on_byte most read b o in
    let rest = taken_more most (read ++ b ∷ []) more in
    let split : read ++ b ∷ more ≡ (read ++ b ∷ []) ++ more = sym (append_assoc read (b ∷ []) more) in
    subst (λ t. IsFront t (taken_at most (read ++ b ∷ more))) (sym (open_taken most read o))
    (front_push (is_open (verdict_at most (read ++ b ∷ []))) read (taken_at most (read ++ b ∷ more)) b
    (subst (λ t. IsFront t (taken_at most (read ++ b ∷ more))) on.taken_is (rest.0, ap (taken_at most) split ∙ rest.1))))
    (λ closed. ([], (closed_more most read (b ∷ more) (is_closed_tells (verdict_at most read) closed)).taken_is ∙ sym (append-nil (taken_at most read))))
    (cases_Bool (is_open (verdict_at most read)))

-- What is held of it

pub reads_begun : (h : Heard) (head : List ℕ) → h.fed ≡ 0 → h.verdict ≡ verdict.Open → h.piece ≡ head → HasRead [] h.reader → Reads h 0 head []
unfolding read_envelope
reads_begun h head fed begun piece reader = record { fed = fed; verdict_is = begun; written = omega arith; piece = piece ∙ sym (append-nil head); reader = λ _. reader }

put : (t : Bool) (head read : List ℕ) (done b : ℕ) → done ≤ length (head ++ read)
    → (if t then drop done (head ++ read) ++ b ∷ [] else drop done (head ++ read)) ≡ drop done (head ++ (if t then read ++ b ∷ [] else read))
put true head read done b within = sym (drop-append-le done (head ++ read) (b ∷ []) within) ∙ ap (drop done) (append_assoc head read (b ∷ []))
put false head read done b within = refl

longer : (t : Bool) (head read : List ℕ) (b done : ℕ) → done ≤ length (head ++ read) → done ≤ length (head ++ (if t then read ++ b ∷ [] else read))
longer true head read b done within = omega (arith, length-append head read, length-append head (read ++ b ∷ []), length_push read b)
longer false head read b done within = within

-- a byte of an open envelope
pub reads_open : (h next : Heard) (done : ℕ) (head read : List ℕ) (b : ℕ) (s : EnvStep) → Reads h done head read → is_open h.verdict ≡ true
    → (HasRead read h.reader → HasRead (read ++ b ∷ []) next.reader) → (HasRead read h.reader → s ≡ step_of (read_envelope (read ++ b ∷ [])))
    → next.fed ≡ h.fed + 1 → next.verdict ≡ verdict_after s (ltb h.fed limit)
    → (t : Bool) → is_open next.verdict ≡ t → next.piece ≡ (if t then h.piece ++ b ∷ [] else h.piece) → Reads next done head (read ++ b ∷ [])
reads_open h next done head read b s r begun reader step fed verdict_is t test piece =
    let begun : h.verdict ≡ verdict.Open = is_open_tells h.verdict begun in
    let o = open_at limit read (sym r.verdict_is ∙ begun) in
    let on = on_byte limit read b o in
    let told : s ≡ step_of (read_envelope (read ++ b ∷ [])) = step (r.reader begun) in
    let same : next.verdict ≡ verdict_of (read ++ b ∷ []) =
    verdict_is ∙ ap (λ n. verdict_after s (ltb n limit)) r.fed ∙ ap (λ t. verdict_after t (ltb (length read) limit)) told ∙ sym on.verdict_is in
    let all : taken read ≡ read = open_taken limit read o in
    let old : h.piece ≡ drop done (head ++ read) = r.piece ∙ ap (λ t. drop done (head ++ t)) all in
    let within : done ≤ length (head ++ read) = subst (λ t. done ≤ length (head ++ t)) all r.written in
    let u : Bool = is_open (verdict_of (read ++ b ∷ [])) in
    record {
      fed = fed ∙ ap (λ n. n + 1) r.fed ∙ sym (length_push read b);
      verdict_is = same;
      written = subst (λ t. done ≤ length (head ++ t)) (sym on.taken_is) (longer u head read b done within);
      piece = piece ∙ ap (λ u. if u then h.piece ++ b ∷ [] else h.piece) (sym test ∙ ap is_open same) ∙ ap (λ x. if u then x ++ b ∷ [] else x) old
          ∙ put u head read done b within ∙ ap (λ t. drop done (head ++ t)) (sym on.taken_is);
      reader = λ _. reader (r.reader begun);
    }

-- a byte after its end
pub reads_closed : (h next : Heard) (done : ℕ) (head read : List ℕ) (b : ℕ) → Reads h done head read → is_open h.verdict ≡ false
    → next.fed ≡ h.fed + 1 → next.verdict ≡ h.verdict → next.piece ≡ h.piece → Reads next done head (read ++ b ∷ [])
reads_closed h next done head read b r far fed verdict_is piece =
    let far = is_closed_tells h.verdict far in
    let same = closed_byte limit read b (λ e. far (r.verdict_is ∙ e)) in
    record {
      fed = fed ∙ ap (λ n. n + 1) r.fed ∙ sym (length_push read b);
      verdict_is = verdict_is ∙ r.verdict_is ∙ sym same.verdict_is;
      written = subst (λ t. done ≤ length (head ++ t)) (sym same.taken_is) r.written;
      piece = piece ∙ r.piece ∙ ap (λ t. drop done (head ++ t)) (sym same.taken_is);
      reader = λ e. absurd (far (sym verdict_is ∙ e));
    }

pub reads_more : (h : Heard) (done : ℕ) (head read bytes : List ℕ) (i : ℕ) → i < length bytes → Reads h done head ((read ++ take i bytes) ++ get_or bytes i 0 ∷ [])
    → Reads h done head (read ++ take (i + 1) bytes)
reads_more h done head read bytes i inside r =
    subst (Reads h done head) (append_assoc read (take i bytes) (get_or bytes i 0 ∷ []) ∙ ap (λ t. read ++ t) (sym (take_more bytes i 0 inside))) r

pub reads_all : (h : Heard) (done : ℕ) (head read bytes : List ℕ) (i : ℕ) → length bytes ≤ i → Reads h done head (read ++ take i bytes) → Reads h done head (read ++ bytes)
reads_all h done head read bytes i past r = subst (λ t. Reads h done head (read ++ t)) (take_all i bytes past) r
