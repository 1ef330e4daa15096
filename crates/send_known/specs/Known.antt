-- The messages that the sender knows, in order of number.
use Rattle.std.specs.Prelude.{ℕ, List, [], ◌∷◌, ◌++◌, set, get_or, slice_get, Bool, false, not, ◌&&◌, ◌||◌, ◌==◌, nat_le, Option, Some, None, if◌then◌else◌, filter, find, position}
use Rattle.std.specs.List.{insert, list_any}
use Rattle.std.specs.Option.{option_map}
use Rattle.send_known.specs.declared.known.Known.{Known}

abbrev pub is_of : ℕ → Known → Bool
is_of n k = k.n == n

abbrev pub is_from : ℕ → Known → Bool
is_from n k = nat_le n k.n

abbrev pub is_known : ℕ → List Known → Bool
is_known n ks = list_any (is_of n) ks

abbrev pub known_at : Option ℕ → List Known → Option Known
known_at None ks = None
known_at (Some i) ks = slice_get ks i

abbrev pub known_of : ℕ → List Known → Option Known
known_of n ks = known_at (position (is_of n) ks) ks

-- a message is known from now on, before those of greater numbers, and in place of one of the same number
abbrev pub learned_at : Option ℕ → Known → List Known → List Known
learned_at None k ks = ks ++ k ∷ []
learned_at (Some i) k ks = if is_of k.n (get_or ks i k) then set ks i k else insert ks i k

abbrev pub learned : Known → List Known → List Known
learned k ks = learned_at (position (is_from k.n) ks) k ks

abbrev pub forgotten : ℕ → List Known → List Known
forgotten n ks = filter (λ k. not (is_of n k)) ks

-- when it was born; 0 if it isn't known
abbrev pub birth_in : Option Known → ℕ
birth_in None = 0
birth_in (Some k) = k.birth

abbrev pub birth_of : ℕ → List Known → ℕ
birth_of n ks = birth_in (known_of n ks)

-- its sender; empty if it isn't known
abbrev pub sender_in : Option Known → List ℕ
sender_in None = []
sender_in (Some k) = k.sender

abbrev pub sender_of : ℕ → List Known → List ℕ
sender_of n ks = sender_in (known_of n ks)

abbrev pub nobody : Known
nobody = record { n = 0; birth = 0; finish_at = 0; local = false; remote = false; sender = [] }

-- it is finished no earlier than then
abbrev pub put_off_at : Option ℕ → ℕ → List Known → List Known
put_off_at None moment ks = ks
put_off_at (Some i) moment ks = set ks i (record (get_or ks i nobody) { finish_at = moment })

abbrev pub put_off : ℕ → ℕ → List Known → List Known
put_off n moment ks = put_off_at (position (is_of n) ks) moment ks

-- its file of the local channel is gone
abbrev pub local_gone_at : Option ℕ → List Known → List Known
local_gone_at None ks = ks
local_gone_at (Some i) ks = set ks i (record (get_or ks i nobody) { local = false })

abbrev pub local_gone : ℕ → List Known → List Known
local_gone n ks = local_gone_at (position (is_of n) ks) ks

-- its file of the remote channel is gone
abbrev pub remote_gone_at : Option ℕ → List Known → List Known
remote_gone_at None ks = ks
remote_gone_at (Some i) ks = set ks i (record (get_or ks i nobody) { remote = false })

abbrev pub remote_gone : ℕ → List Known → List Known
remote_gone n ks = remote_gone_at (position (is_of n) ks) ks

-- both its channel files are gone, and its finish moment has come
abbrev pub is_idle : ℕ → Known → Bool
is_idle now k = nat_le k.finish_at now && not (k.local || k.remote)

-- the least number of which that is so
abbrev pub first_idle : ℕ → List Known → Option ℕ
first_idle now ks = option_map (λ (k : Known). k.n) (find (is_idle now) ks)
