-- What is reported once of a half of a stream is a signal of it, in time or late.
use Rattle.std.proofs.Common.{◌≡◌, ℕ, Bool, true, false, Option, Some, None, refl, sym, ap}
use Rattle.std.specs.Prelude.{is_some, not, if◌then◌else◌}
use Rattle.wt_wire.specs.declared.side.StreamEnd.{StreamEnd}
use Rattle.wt_wire.specs.declared.side.StreamEnd.TheVariants as ends
use Rattle.wt_turn.specs.Reports.{is_running}
use Rattle.wt_transport.specs.declared.reported.Reported.{Reported}
use Rattle.wt_transport.specs.declared.stream.Stream.TheInside.{Inside}
use Rattle.wt_transport.specs.contracts.stream.Stream.{the_view}
use Rattle.wt_transport.specs.Reporting.{in_time}
use Rattle.wt_transport.specs.StreamState.{signal, with_ack, with_end, with_stop}

nothing-if : {T : Type 0} (b : Bool) (nothing value : T) → value ≡ nothing → (if b then nothing else value) ≡ nothing
nothing-if true nothing value e = refl
nothing-if false nothing value e = e

-- where nothing was reported at all nothing was in time
nothing-yet : {T : Type 0} (nothing : T) (r : Reported T) → r.value ≡ nothing → in_time nothing r ≡ nothing
nothing-yet nothing r e = nothing-if r.is_late nothing r.value e

running-is : (end : StreamEnd) → is_running end ≡ true → end ≡ ends.Running
running-is ends.Running e = refl
running-is ends.Fin e = absurd (cc)
running-is (ends.Reset code) e = absurd (cc)

none-is : (stop : Option ℕ) → not (is_some stop) ≡ true → stop ≡ None
none-is None e = refl
none-is (Some code) e = absurd (cc)

false-is : (b : Bool) → not b ≡ true → b ≡ false
false-is false e = refl
false-is true e = absurd (cc)

pub end_is : (s : Inside) (counts : Bool) (end : StreamEnd) → is_running s.end.value ≡ true
    → the_view (record s { end = record { value = end; is_late = not counts } }) ≡ signal counts (with_end end) (the_view s)
end_is s true end e = refl
end_is s false end e = ap (λ (was : StreamEnd). record (the_view s) { signals = record (the_view s).signals { end = was }; all_signals = record (the_view s).all_signals { end = end } })
    (sym (nothing-yet ends.Running s.end (running-is s.end.value e)))

pub stop_is : (s : Inside) (counts : Bool) (code : ℕ) → not (is_some s.stop.value) ≡ true
    → the_view (record s { stop = record { value = Some code; is_late = not counts } }) ≡ signal counts (with_stop code) (the_view s)
stop_is s true code e = refl
stop_is s false code e = ap (λ (was : Option ℕ). record (the_view s) { signals = record (the_view s).signals { stop = was }; all_signals = record (the_view s).all_signals { stop = Some code } })
    (sym (nothing-yet None s.stop (none-is s.stop.value e)))

pub ack_is : (s : Inside) (counts : Bool) → not s.acknowledged.value ≡ true
    → the_view (record s { acknowledged = record { value = true; is_late = not counts } }) ≡ signal counts with_ack (the_view s)
ack_is s true e = refl
ack_is s false e = ap (λ (was : Bool). record (the_view s) { signals = record (the_view s).signals { acknowledged = was }; all_signals = record (the_view s).all_signals { acknowledged = true } })
    (sym (nothing-yet false s.acknowledged (false-is s.acknowledged.value e)))
