-- When a source is read, and what is kept of it (this repository's own).
use Rattle.std.specs.Prelude.{◌&&◌, Bool, List, not}
use Rattle.std.specs.List.{list_any}
use Rattle.wt_relay.specs.declared.source.Copied.{Copied}
use Rattle.wt_relay.specs.Progress.{holds}

-- the copy holds its source
abbrev pub copy_holds : Copied → Bool
copy_holds c = holds c.progress

-- the source may be read, where it is over or not and has these copies: it is asked, and none of them holds it
abbrev pub is_free : Bool → List Copied → Bool
is_free over copies = not over && not (list_any copy_holds copies)
