-- How long addresses and the fields of a request may be.
use Rattle.std.proofs.Common.{◌≡◌, ◌≢◌, ⊎_elim, ℕ, ◌+◌, ◌<◌, ◌≤◌, ◌^◌, ◌%◌, List, [], ◌∷◌, ◌++◌, length, take, refl, sym, ap, ◌∙◌, subst, arith}
use Rattle.std.specs.Prelude.{All}
use Rattle.std.proofs.Math.Nat.{mod-lt}
use Rattle.std.specs.List.{AllByRecursion}
use Rattle.std.specs.Int.Digits.{digits_of}
use Rattle.std.proofs.lemmas.Int.Digits.{length-digits_of-le}
use Rattle.std.proofs.lemmas.Bool.{cases_lt}
use Rattle.std.proofs.lemmas.List.{length-append, length-map}
use Rattle.std.proofs.lemmas.List.Elements.{All-nil, recursion_from_All}
use Rattle.address_rules.specs.declared.controls.Controls.{Controls}
use Rattle.address_rules.specs.declared.rewriting.Route.{Route}
use Rattle.address_rules.specs.declared.virtual_domains.VirtualDomain.{VirtualDomain}
use Rattle.address_rules.specs.Keys.{IsFirstPrefix}
use Rattle.address_rules.specs.Names.{IsVerp, mark, verp_of}
use Rattle.address_rules.specs.Names.IsVerp.{NoDomain, Told, Unmarked}
use Rattle.address_rules.specs.Routes.{AfterRounds, IsDecided, IsQualified, IsRound, address_in, address_keys, route_of}
use Rattle.address_rules.specs.Routes.AfterRounds.{NoRound, Round}
use Rattle.address_rules.specs.Routes.IsDecided.{HasPrefix, IsElsewhere, IsExcepted, IsHere}
use Rattle.address_rules.proofs.NameLaws.{verp_to}
use Rattle.address_rules.proofs.RouteLaws.{route_to}
use Rattle.envelope_records.specs.Envelope.{IsAddress, Reading, read_envelope}
use Rattle.envelope_records.specs.Envelope.Reading.{Broken, Open, Whole}
use Rattle.envelope_records.proofs.Envelopes.{Sound, read_sound}
use Rattle.mail_bytes.specs.Decimal.{digits}
use Rattle.mail_bytes.proofs.Digits.{digits_more, digits_zero}
use Rattle.queue_inject.specs.declared.injection.Arguments.{Arguments}
use Rattle.queue_inject.specs.Texts.{limit, recipients_of, recipients_read}
use Rattle.queue_law.specs.Routes.{Recipient, sender_of, sender_read}
use Rattle.queue_paths.specs.Names.{split, split_text}
use Rattle.settle_law.proofs.ShortControls.{AreShort, HasShortPrefix}

-- Addresses of an envelope

no_bytes : IsAddress []
no_bytes = record { short = omega arith; plain = All-nil (λ (b : ℕ). b ≢ 0) }

from_address : (bytes : List ℕ) (r : Reading) → Sound bytes r → IsAddress (sender_read r)
from_address bytes (Whole sender recipients) h = h.whole.from
from_address bytes (Open stage) h = no_bytes
from_address bytes (Broken before fault) h = no_bytes

pub sender_address : (args : Arguments) → IsAddress (sender_of args)
unfolding sender_of
sender_address args = from_address (take limit args.envelope) (read_envelope (take limit args.envelope)) (read_sound (take limit args.envelope))

none_so : (earlier later : List (List ℕ)) (address : List ℕ) → [] ≡ earlier ++ address ∷ later → ⊥
none_so [] later address e = cc
none_so (x ∷ earlier) later address e = cc

one_of : (earlier later : List (List ℕ)) (address : List ℕ) → All IsAddress (earlier ++ address ∷ later) → IsAddress address
one_of earlier later address all = by earlier (recursion_from_All IsAddress (earlier ++ address ∷ later) all)
  where
    by : (earlier : List (List ℕ)) → AllByRecursion IsAddress (earlier ++ address ∷ later) → IsAddress address
    by [] h = h.0
    by (x ∷ earlier) h = by earlier h.1

to_address : (bytes : List ℕ) (r : Reading) → Sound bytes r → (earlier later : List (List ℕ)) (address : List ℕ) → recipients_read r ≡ earlier ++ address ∷ later → IsAddress address
to_address bytes (Whole sender recipients) h earlier later address split = one_of earlier later address (subst (All IsAddress) split h.whole.to)
to_address bytes (Open stage) h earlier later address split = absurd (none_so earlier later address split)
to_address bytes (Broken before fault) h earlier later address split = absurd (none_so earlier later address split)

pub recipient_address : (args : Arguments) (r : Recipient args) → IsAddress r.address
unfolding recipients_of
recipient_address args r =
    to_address (take limit args.envelope) (read_envelope (take limit args.envelope)) (read_sound (take limit args.envelope)) r.earlier r.later r.address r.split

-- Routes

qualified_short : (host address begun : List ℕ) → length host ≤ 400 → length address ≤ 1002 → IsQualified host address begun → length begun ≤ 1403
qualified_short host address begun h low q = ⊎_elim
    (λ w. let same = ap length w.1 in omega (arith, same, low))
    (λ w. let same = ap length w.1 ∙ length-append address (64 ∷ host) in omega (arith, same, low, h))
    q

round_short : (hacks : List (List ℕ)) (from to : List ℕ) → IsRound hacks from to → length to ≤ length from
round_short hacks from to r =
    let all = ap length r.split ∙ length-append (r.user ++ 37 ∷ r.host) (64 ∷ r.domain) in
    let front = length-append r.user (37 ∷ r.host) in
    let next = ap length r.becomes ∙ length-append r.user (64 ∷ r.host) in
    omega (arith, all, front, next)

rounds_short : (hacks : List (List ℕ)) (to from : List ℕ) → AfterRounds hacks to from → length to ≤ length from
rounds_short hacks to from (NoRound none same) = let e = ap length same in omega (arith, e)
rounds_short hacks to from (Round {next = next} round later) =
    let one = round_short hacks from next round in
    let more = rounds_short hacks to next later in
    omega (arith, one, more)

prefix_among : (before after : List VirtualDomain) (line : VirtualDomain) → All HasShortPrefix (before ++ line ∷ after) → HasShortPrefix line
prefix_among before after line all = by before (recursion_from_All HasShortPrefix (before ++ line ∷ after) all)
  where
    by : (before : List VirtualDomain) → AllByRecursion HasShortPrefix (before ++ line ∷ after) → HasShortPrefix line
    by [] h = h.0
    by (x ∷ before) h = by before h.1

prefix_short : (domains : List VirtualDomain) (keys : List (List ℕ)) (prefix : List ℕ) → All HasShortPrefix domains → IsFirstPrefix domains keys prefix → length prefix ≤ 1000
prefix_short domains keys prefix h f =
    let it = f.first_line in
    subst (λ (p : List ℕ). length p ≤ 1000) f.says (prefix_among it.before it.after f.line (subst (All HasShortPrefix) it.split h))

abbrev IsLow : Route → Type 0
IsLow route = length (address_in route) ≤ 2404

decided_short : (controls : Controls) (full domain : List ℕ) (route : Route) → AreShort controls → length full ≤ 1403 → IsDecided controls full domain route → IsLow route
decided_short controls full domain route c low (IsHere listed same) = subst IsLow (sym same) (omega (arith, low))
decided_short controls full domain route c low (HasPrefix apart prefix is some same) =
    subst IsLow (sym same)
    (let all = length-append prefix (45 ∷ full) in
    let most = prefix_short controls.virtual_domains (address_keys full domain) prefix c.prefixes is in
    omega (arith, all, most, low))
decided_short controls full domain route c low (IsExcepted apart is same) = subst IsLow (sym same) (omega (arith, low))
decided_short controls full domain route c low (IsElsewhere apart none same) = subst IsLow (sym same) (omega (arith, low))

pub route_short : (controls : Controls) (address : List ℕ) → AreShort controls → length address ≤ 1002 → length (address_in (route_of controls address)) ≤ 2404
route_short controls address c low =
    let it = route_to controls address (route_of controls address) refl in
    let begun = qualified_short controls.env_no_at_host address it.begun c.host low it.qualifies in
    let full = rounds_short controls.percent_hack it.full it.begun it.rounds in
    decided_short controls it.full it.domain (route_of controls address) c (omega (arith, begun, full)) it.decides

-- The sender that a recipient sees

verp_by : (sender recipient text : List ℕ) → IsVerp sender recipient text → length text ≤ length sender + length recipient
verp_by sender recipient text (Told owner host box domain m cut same) =
    let s = ap length m.split ∙ length-append (owner ++ 64 ∷ host) mark in
    let s_front = length-append owner (64 ∷ host) in
    let r = ap length cut.split ∙ length-append box (64 ∷ domain) in
    let t = ap length same ∙ length-append owner (box ++ (61 ∷ (domain ++ 64 ∷ host))) in
    let t_later = length-append box (61 ∷ (domain ++ 64 ∷ host)) in
    let t_last = length-append domain (64 ∷ host) in
    omega (arith, s, s_front, r, t, t_later, t_last)
verp_by sender recipient text (Unmarked none same) = let e = ap length same in omega (arith, e)
verp_by sender recipient text (NoDomain none same) = let e = ap length same in omega (arith, e)

pub verp_short : (sender recipient : List ℕ) → length (verp_of sender recipient) ≤ length sender + length recipient
verp_short sender recipient = verp_by sender recipient (verp_of sender recipient) (verp_to sender recipient (verp_of sender recipient) refl)

-- The file of a message

pub digits_short : (n : ℕ) → n < 2 ^ 64 → length (digits n) ≤ 20
digits_short n lt = ⊎_elim
    (λ (some : 0 < n).
    let most : length (digits_of 10 n) ≤ 20 = length-digits_of-le 10 20 n (omega arith) (omega arith) in
    let same = ap length (digits_more n some) ∙ length-map (digits_of 10 n) (λ (d : ℕ). 48 + d) in
    omega (arith, most, same))
    (λ none. let one = ap length (digits_zero n (omega (arith, none))) in omega (arith, one))
    (cases_lt 0 n)

split_low : (n : ℕ) → split n < 2 ^ 64
split_low n = let low : n % 23 < 23 = mod-lt n (omega arith) in omega (arith, low)

pub split_short : (n : ℕ) → n < 2 ^ 64 → length (split_text n) ≤ 41
split_short n lt =
    let one = digits_short (split n) (split_low n) in
    let two = digits_short n lt in
    let all : length (split_text n) ≡ length (digits (split n)) + length (47 ∷ digits n) = length-append (digits (split n)) (47 ∷ digits n) in
    omega (arith, one, two, all)
