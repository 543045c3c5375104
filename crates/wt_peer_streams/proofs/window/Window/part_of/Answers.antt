use Rattle.std.proofs.Common.{◌≡◌, ◌∙◌, ◌++◌, ap}
use Rattle.std.specs.Prelude.{◌==◌, filter}
use Rattle.wt_kept.specs.Kept.{WaitingDatagram, WindowNow}
use Rattle.wt_kept.specs.Windows.{empty_window, part_of}
use Rattle.wt_sessions.specs.StreamTable.{Waiting}
use Rattle.wt_peer_streams.proofs.window.Window.part_of.Goals as goal

pub returns-clause-part : goal.returns-clause-part
returns-clause-part c =
    let none : record { streams = c.part.inside.streams.items; datagrams = c.part.inside.datagrams.items } ≡ empty_window = c.part.view_is ∙ c.new-part.ensures in
    (λ i. record {
      streams = (c.in_ok-split.ensures.part ∙ ap (λ (w : WindowNow). w.streams ++ filter (λ (x : Waiting). x.session == c.args.session) c.self.inside.streams.items) none) i;
      datagrams = (c.in_ok-split-2.ensures.part ∙ ap (λ (w : WindowNow). w.datagrams ++ filter (λ (x : WaitingDatagram). x.session == c.args.session) c.self.inside.datagrams.items) none) i;
    })
    ∙ ap (λ (w : WindowNow). part_of c.args.session w) c.self.view_is
