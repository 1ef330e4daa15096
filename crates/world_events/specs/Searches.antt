-- Searches for a message to preprocess, among what actors do: who searches, and where.
use Rattle.std.specs.Prelude.{ℕ, List, [], ◌∷◌, take, Bool, false, ◌&&◌, bytes_eq, codes}
use Rattle.std.specs.List.{list_any}
use Rattle.actor_names.specs.declared.member.Member.{Member}
use Rattle.actor_names.specs.declared.member.Member.TheVariants as member
use Rattle.actor_names.specs.Members.{name_of}
use Rattle.call_fs.specs.declared.calls.CallData.TheVariants.{NextName}
use Rattle.call_fs.specs.declared.past.NeedData.{NeedData}
use Rattle.call_fs.specs.declared.past.NeedData.TheVariants.{File}
use Rattle.world_events.specs.declared.event.Event.{Event as Kept}
use Rattle.world_events.specs.declared.event.Event.TheVariants as kept

-- the member that searches, and its name
abbrev pub searcher : Member
searcher = member.Sender

abbrev pub searcher_name : List ℕ
searcher_name = name_of searcher

abbrev pub searches : List ℕ → Bool
searches a = bytes_eq a searcher_name

-- the directories in which a message waits to be preprocessed, in the order in which a turn searches them
abbrev pub searched_dirs : List (List ℕ)
searched_dirs = codes "todo" ∷ []

abbrev pub is_searched : List ℕ → Bool
is_searched dir = list_any (bytes_eq dir) searched_dirs

-- the first of them
abbrev pub is_first_dir : List ℕ → Bool
is_first_dir dir = list_any (bytes_eq dir) (take 1 searched_dirs)

-- what was due is a search
abbrev pub is_search_call : NeedData → Bool
is_search_call (File (NextName dir after)) = is_searched dir
is_search_call other = false

-- what was due begins at the start of the first of these directories, as the first search of each turn does
abbrev pub is_first_call : NeedData → Bool
is_first_call (File (NextName dir after)) = is_first_dir dir && bytes_eq after []
is_first_call other = false

-- a kept event is a search, or begins so
abbrev pub is_search_kept : Kept → Bool
is_search_kept (kept.Act a own) = searches a && is_search_call own.due
is_search_kept other = false

abbrev pub is_first_kept : Kept → Bool
is_first_kept (kept.Act a own) = is_first_call own.due
is_first_kept other = false
