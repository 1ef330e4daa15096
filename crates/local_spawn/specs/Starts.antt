-- Which deliveries a local spawner starts, by its past alone (qmail-lspawn(8)).
use Rattle.std.specs.Prelude.{◌≡◌, ◌≢◌, ℕ, List, [], ◌∷◌, ◌++◌, All, drop, Bool, true, false, Some, slice_get}
use Rattle.call_fs.specs.declared.calls.Answer.{Answer}
use Rattle.call_fs.specs.declared.calls.Answer.TheVariants as answer
use Rattle.call_fs.specs.declared.calls.CallData.TheVariants as call
use Rattle.call_fs.specs.declared.calls.FsError.TheVariants as why
use Rattle.call_fs.specs.declared.past.ChildData.{ChildData}
use Rattle.call_fs.specs.declared.past.ChildData.TheVariants as child
use Rattle.call_fs.specs.declared.past.GotData.{GotData}
use Rattle.call_fs.specs.declared.past.GotData.TheVariants as came
use Rattle.call_fs.specs.declared.past.NeedData.{NeedData}
use Rattle.call_fs.specs.declared.past.NeedData.TheVariants as needs
use Rattle.call_fs.specs.declared.past.Own.{Own}
use Rattle.spawn_protocol.specs.declared.request.Request.{Request}
use Rattle.spawner_parts.specs.Counts.{IsStart}
use Rattle.local_spawn.specs.declared.assign.Assignment.{Assignment}
use Rattle.local_spawn.specs.declared.finding.Found.{Found}
use Rattle.local_spawn.specs.Deliveries.{default_line}
use Rattle.local_spawn.specs.Finding.{IsFound}
use Rattle.local_spawn.specs.Users.{users_in}

-- Its start is what it did before it gave its first byte.

abbrev pub is_give : NeedData → Bool
is_give (needs.Give port bytes) = true
is_give other = false

abbrev pub either : Bool → Bool → Bool
either true other = true
either false other = other

-- its start is over
abbrev pub has_greeted : List Own → Bool
has_greeted [] = false
has_greeted (event ∷ before) = either (has_greeted before) (is_give event.due)

abbrev pub more_text : List ℕ → Answer → List ℕ → List ℕ
more_text old (answer.Count count) bytes = old ++ bytes
more_text old told bytes = old

abbrev pub text_by : (over : Bool) → List ℕ → NeedData → GotData → List ℕ
text_by false old (needs.File (call.ReadAt fd from count)) (came.Answered told) = more_text old told.answer told.bytes
text_by over old due got = old

-- what it read in its start
abbrev pub users_text : List Own → List ℕ
users_text [] = []
users_text (event ∷ before) = text_by (has_greeted before) (users_text before) event.due event.came

abbrev pub is_not_there : Answer → Bool
is_not_there (answer.Refused why.NotThere) = true
is_not_there told = false

abbrev pub missing_by : (over : Bool) → Bool → NeedData → GotData → Bool
missing_by false old (needs.File (call.Open name how)) (came.Answered told) = is_not_there told.answer
missing_by over old due got = old

-- the file that it opened in its start wasn't there
abbrev pub is_missing : List Own → Bool
is_missing [] = false
is_missing (event ∷ before) = missing_by (has_greeted before) (is_missing before) event.due event.came

-- The users: none without the file, else its assignments.
pub data HasUsers (past : List Own) : List Assignment → Type 0 where
  NoFile : is_missing past ≡ true → HasUsers past []
  FileRead : (users : List Assignment) → users_in (users_text past) ≡ Some users → HasUsers past users

-- A delivery is that of a request that isn't bad, to the user to whom its local part belongs. Each request before it has its report,
-- or a delivery.
pub record IsDeliveryOfOne (past : List Own) (requests : List Request) (program : ChildData) : Type 0 where
  pub request : Request
  pub is : IsStart past requests request program
  pub users : List Assignment
  pub are : HasUsers past users
  pub local : List ℕ
  pub domain : List ℕ
  pub address : request.recipient ≡ local ++ 64 ∷ domain
  pub last : All (λ b. b ≢ 64) domain
  pub found : Found
  pub belongs : IsFound users local found
  pub user : Assignment
  pub here : slice_get users found.line ≡ Some user
  pub of : program ≡ child.Local request.slot (record {
    user = user.user;
    home = user.home;
    local = local;
    dash = user.dash;
    ext = user.ext ++ drop found.rest local;
    domain = domain;
    sender = request.sender;
    line = default_line;
  }) user.uid
