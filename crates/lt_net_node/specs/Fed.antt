-- What a part is fed with, by the routes of what crosses.
use Rattle.std.specs.Prelude.{ℕ, ◌<◌, false, List, length, slice_index_or}
use Rattle.lt_base.specs.declared.value.Value.{Value}
use Rattle.lt_base.specs.declared.value.Value.TheVariants.{Bool as Truth}
use Rattle.lt_link.specs.Inbox.{InboxState, no_inbox}
use Rattle.lt_place.specs.declared.layout.Feed.{Feed}
use Rattle.lt_place.specs.declared.layout.Feed.TheVariants.{Input, Cross}
use Rattle.lt_net_node.specs.declared.route.Route.{Route}

-- past the last route
abbrev pub no_route : Route
no_route = record { out = 0; channel = 0; place = 0 }

-- the route of crossing c
abbrev pub route_of : List Route → (c : ℕ) → Route
route_of routes c = slice_index_or routes c no_route

-- the value of an input of a part, by the inboxes and the input row
abbrev pub fed_by : List Route → List InboxState → (row : List Value) → Feed → Value
fed_by routes bs row (Input i) = slice_index_or row i (Truth false)
fed_by routes bs row (Cross c) = slice_index_or (slice_index_or bs (route_of routes c).channel no_inbox).payload (route_of routes c).place (Truth false)

-- it is there
abbrev pub CanFeed : List Route → List InboxState → (row : List Value) → Feed → Type 0
CanFeed routes bs row (Input i) = i < length row
CanFeed routes bs row (Cross c) = (c < length routes) × ((route_of routes c).channel < length bs) × ((route_of routes c).place < length (slice_index_or bs (route_of routes c).channel no_inbox).payload)
