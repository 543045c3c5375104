-- How a history of turns and answers stands for a log of entries.
use Rattle.std.specs.Prelude.{◌≡◌, List, None, Option, Some, filter, filter_map, length, true, ℕ}
use Rattle.wt_turn.specs.Log.{Log, all_events_of, events_of}
use Rattle.wt_turn.specs.Log as logs
use Rattle.wt_turn.specs.Streams as streams
use Rattle.wt_sessions.specs.StreamTable.{Admitted, Classified, Closed, StreamTable}
use Rattle.wt_meaning.specs.Findings.{DatagramRead, Finding, SessionClosed, fault_of, is_datagram, settings_came}
use Rattle.wt_meaning.specs.History.{History, all_events, contents, events, is_open}
use Rattle.wt_meaning.specs.Findings as finds

-- the same came, and the connection is open in both or in none
pub record Agrees (h : History) (log : Log) : Type 0 where
  pub events : events h ≡ events_of log
  pub all_events : all_events h ≡ all_events_of log
  pub openness : is_open h ≡ logs.is_open log
  pub contents : (k : ℕ) → contents h k ≡ streams.contents log k

-- the entry of the table that a finding makes
abbrev pub classified_in : Finding → Option Classified
classified_in (finds.Classified id verdict keeps) = Some (record { id = id; verdict = verdict; admitted = keeps })
classified_in _ = None

-- the datagram that a finding admits
abbrev pub admitted_in : Finding → Option Admitted
admitted_in (DatagramRead index session payload true) = Some (record { index = index; session = session; payload = payload })
admitted_in _ = None

-- the session that a finding closes
abbrev pub closed_in : Finding → Option Closed
closed_in (SessionClosed session code reason by_capsule) = Some (record { id = session; code = code; reason = reason })
closed_in _ = None

-- what was found is what the table holds
pub record IsTable (found : List Finding) (table : StreamTable) : Type 0 where
  pub classified : filter_map classified_in found ≡ table.classified
  pub datagrams : filter_map admitted_in found ≡ table.datagrams
  pub closed : filter_map closed_in found ≡ table.closed
  pub looked_at : length (filter is_datagram found) ≡ table.progress.datagrams
  pub settings : settings_came found ≡ table.progress.settings
  pub fault : fault_of found ≡ table.progress.fault
