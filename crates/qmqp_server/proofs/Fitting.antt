-- What an injector gets of a package within the limit is within its limits.
use Rattle.std.proofs.Common.{◌≡◌, ℕ, ◌+◌, ◌≤◌, List, [], ◌∷◌, ◌++◌, length, refl, sym, ap, ◌∙◌, arith, length-append}
use Rattle.std.specs.Prelude.{flat_map}
use Rattle.std.proofs.lemmas.List.{append-nil, take_all}
use Rattle.std.proofs.lemmas.List.Concat.{flat_map-cons}
use Rattle.mail_bytes.specs.Netstring.{netstring}
use Rattle.envelope_records.specs.Envelope.{record_of, records_of}
use Rattle.queue_inject.specs.Texts.{limit}
use Rattle.qmqp_server.specs.Package.{PackagesHaveEnvelopes, content_of, envelope_of}
use Rattle.qmqp_server.proofs.Values.{head_some, netstring_size}

-- a netstring more, and a record more
netstring_first : (t : List ℕ) (ts : List (List ℕ)) → length t + 2 + length (flat_map netstring ts) ≤ length (flat_map netstring (t ∷ ts))
netstring_first t ts =
    let whole = ap length (flat_map-cons netstring t ts) in
    let parts = length-append (netstring t) (flat_map netstring ts) in
    let one = netstring_size t in
    let some = head_some (length t) in
    omega arith

record_first : (t : List ℕ) (ts : List (List ℕ)) → length (flat_map record_of (t ∷ ts)) ≡ length t + 2 + length (flat_map record_of ts)
record_first t ts =
    let whole = ap length (flat_map-cons record_of t ts) in
    let parts = length-append (record_of t) (flat_map record_of ts) in
    let one = length-append t (0 ∷ []) in
    omega arith

records_few : (ts : List (List ℕ)) → length (flat_map record_of ts) ≤ length (flat_map netstring ts)
records_few [] = omega arith
records_few (t ∷ ts) = let rest = records_few ts in let one = netstring_first t ts in let other = record_first t ts in omega arith

envelope_size : (s : List ℕ) (rs : List (List ℕ)) → length (envelope_of s rs) ≡ length s + 3 + length (flat_map record_of rs)
envelope_size s rs =
    let whole = length-append (records_of s rs) (0 ∷ []) in
    let parts = length-append (70 ∷ (s ++ 0 ∷ [])) (flat_map record_of rs) in
    let one = length-append s (0 ∷ []) in
    omega arith

-- the message and the envelope together are no longer than the content
pub content_long : (m s : List ℕ) (rs : List (List ℕ)) → length m + length (envelope_of s rs) ≤ length (content_of m s rs)
content_long m s rs =
    let first = netstring_first m (s ∷ rs) in
    let second = netstring_first s rs in
    let few = records_few rs in
    let size = envelope_size s rs in
    omega arith

pub have_envelopes : PackagesHaveEnvelopes
have_envelopes m s rs short from to =
    let long = content_long m s rs in
    let fits : length (envelope_of s rs) ≤ limit = omega arith in (
      omega arith,
      record {
        prefix = envelope_of s rs;
        rest = [];
        split = take_all limit (envelope_of s rs) fits ∙ sym (append-nil (envelope_of s rs));
        whole = record { text = refl; from = from; to = to };
      },
    )
