-- What is kept of a composite while it is open: its children, what the last one answered, and what its tree has used.
use Rattle.std.specs.Prelude.{◌+◌, ◌-◌, ◌^◌, ◌++◌, ℕ, [], ◌∷◌, min, Option, Some, None}
use Rattle.ow_records.specs.Response.{ResponseView}
use Rattle.ow_records.specs.declared.forms.Role.{Role}
use Rattle.ow_records.specs.declared.forms.Role.TheVariants.{Alone, Component, Run}
use Rattle.ow_records.specs.declared.frames.Frame.{Frame}
use Rattle.ow_records.specs.declared.frames.Used.{Used}
use Rattle.ow_records.specs.declared.ids.Id.{Id}

-- a composite that has called nothing yet
abbrev pub first_frame : Id → Frame
first_frame id = record {
  id = id;
  children = [];
  last = None;
  conducted = None;
  used = record { components = 0; conductors = 0 };
}

-- one more child is called, which has not ended
abbrev pub with_child : Id → Frame → Frame
with_child child f = record {
  id = f.id;
  children = f.children ++ child ∷ [];
  last = None;
  conducted = f.conducted;
  used = f.used;
}

-- the response of the last run of a conductor's own code
abbrev pub conducted_by : Role → ResponseView → Option ResponseView → Option ResponseView
conducted_by Alone response before = before
conducted_by Component response before = before
conducted_by Run response before = Some response

-- the last child has ended
abbrev pub with_end : Role → ResponseView → Frame → Frame
with_end role response f = record {
  id = f.id;
  children = f.children;
  last = Some (record { role = role; response = response });
  conducted = conducted_by role response f.conducted;
  used = f.used;
}

-- one more; the greatest number of 32 bits stays
abbrev pub one_more : ℕ → ℕ
one_more n = min (n + 1) (2 ^ 32 - 1)

abbrev pub counted : Role → Used → Used
counted Alone u = u
counted Component u = record { components = one_more u.components; conductors = u.conductors }
counted Run u = record { components = u.components; conductors = one_more u.conductors }

-- one more activation in the tree
abbrev pub with_used : Role → Frame → Frame
with_used role f = record {
  id = f.id;
  children = f.children;
  last = f.last;
  conducted = f.conducted;
  used = counted role f.used;
}
