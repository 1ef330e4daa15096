use Rattle.std.proofs.Common.{◌≡◌, ◌≤◌, pos, ◌*◌, arith, w64}
use Rattle.std.proofs.lemmas.Int.{to_z_pos}
use Rattle.jiff_core.specs.DateTime.{civil_nanos}
use Rattle.jiff_core.proofs.SignedLemmas.{signed_arith}
use Rattle.received_line.proofs.Dates.{shows_moment, day_is}
use Rattle.received_line.proofs.line.in_utc.Goals as goal

pub returns : goal.returns
returns c =
    let small : c.args.moment ≤ 250_000_000_000 = c.requires in
    let told = rw c.unwrap.ensures at c.from_second.ensures.value in
    let cast = to_z_pos w64 c.args.moment (omega arith) in
    let shown : civil_nanos c.to_datetime.result ≡ pos (c.args.moment * 1_000_000_000) = omega (arith, signed_arith, told, cast) in
    let shows = shows_moment c.args.moment c.to_datetime.result shown in
    record { day = day_is c.args.moment c.to_datetime.result shows; hour = shows.hour; minute = shows.minute; second = shows.second }
