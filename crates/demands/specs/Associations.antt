-- A call for one of a gateway's associations: the client's call at that record, with 35 and 29 before it.
use Rattle.std.specs.Prelude.{Option}
use Rattle.std.specs.Prelude.{ℕ, ◌≤◌, ◌<◌, Bool, List, [], ◌∷◌, length, set}
use Rattle.refusals.specs.declared.Refusal.TheVariants.{NotInList, RecordNotLegal}
use Rattle.timestamp.specs.declared.Timestamp.{Timestamp}
use Rattle.client.specs.declared.Client.{Client}
use Rattle.client.specs.Calls as calls
use Rattle.association_rules.specs.Associations.{association, alternate, asked_for, list_after_ask, buffer_after_ask, gave_up_for, list_after_give_up, arrived_for, list_after_arrival}
use Rattle.association_rules.specs.InUse.{exists, use_after_kiss}
use Rattle.demands.specs.Form.{◌unless◌then◌, Form, Implementation}
use Rattle.demands.specs.Wrapper.{map_rules}
use Rattle.demands.specs.Legal.{Legal}
use Rattle.demands.specs.Client.{shown, call_rules}

-- ---- what a call is given

-- whether an alternate exists is read off the list
pub record ListArrival : Type 0 where
  pub packet : List ℕ
  pub t4 : Timestamp

pub data ListCall : Type 0 where
  ask : calls.Ask → ListCall
  arrival : ListArrival → ListCall
  give_up : calls.GiveUp → ListCall

-- the records, the number of the one that the call is for, and the number in use
pub record ListInput : Type 0 where
  pub list : List Client
  pub at : ℕ
  pub in_use : ℕ
  pub call : ListCall

pub record ListOutcome : Type 0 where
  pub result : calls.Told
  pub list : List Client
  pub in_use : ℕ
  pub octets : List ℕ

-- ---- its rules

abbrev pub InList : List Client → ℕ → ℕ → Type 0
InList list at in_use = (1 ≤ length list) × (length list ≤ 8) × (at < length list) × (in_use < length list)

abbrev pub AllLegal : List Client → Type 0
AllLegal [] = Unit {0}
AllLegal (c ∷ rest) = Legal c × AllLegal rest

-- use moves after a kiss alone
abbrev pub use_after : calls.Told → Option ℕ → (at in_use : ℕ) → ℕ
use_after (calls.kiss code row) a at in_use = use_after_kiss a at in_use
use_after (calls.refused n) a at in_use = in_use
use_after calls.done a at in_use = in_use
use_after (calls.accepted offset half delay) a at in_use = in_use

-- the client's call, told whether an alternate exists
abbrev pub client_call : Bool → ListCall → calls.Call
client_call told (ask x) = calls.ask x
client_call told (arrival x) = calls.arrival (record { packet = x.packet; t4 = x.t4; alternate = told })
client_call told (give_up x) = calls.give_up x

module _ (i : ListInput) where
  abbrev pub at_record : Client × calls.Call
  at_record = (association i.list i.at, client_call (exists (alternate i.list i.at)) i.call)

  -- the record that it hands back stands in its place, and all others are as they stood
  abbrev pub placed : calls.Outcome → ListOutcome
  placed o = record {
    result = o.result;
    list = set i.list i.at o.next;
    in_use = use_after o.result (alternate i.list i.at) i.at i.in_use;
    octets = o.octets;
  }

abbrev pub lent : ListCall → List ℕ
lent (ask x) = x.buffer
lent (arrival x) = x.packet
lent (give_up x) = []

abbrev pub associations : Form
associations = record {
  Input = ListInput;
  Outcome = ListOutcome;
  shown = λ o. shown o.result;
  refusing = λ i n. record { result = calls.refused n; list = i.list; in_use = i.in_use; octets = lent i.call };
  rules = λ i.
      NotInList unless InList i.list i.at i.in_use then
      RecordNotLegal unless AllLegal i.list then
      map_rules (placed i) (call_rules (at_record i).0 (at_record i).1);
}

-- ---- ours: the definitions that the contracts of the code cite

abbrev does : List Client → (at in_use : ℕ) → ListCall → ListOutcome
does list at in_use (ask x) = record {
  result = calls.said_call (asked_for list at in_use (length x.buffer) x.version x.clock x.token x.uptime).answer;
  list = list_after_ask list at in_use (length x.buffer) x.version x.clock x.token x.uptime;
  in_use = (asked_for list at in_use (length x.buffer) x.version x.clock x.token x.uptime).in_use;
  octets = buffer_after_ask list at in_use x.buffer x.version x.clock x.token x.uptime;
}
does list at in_use (arrival x) = record {
  result = calls.said_arrival (arrived_for list at in_use x.packet x.t4).answer;
  list = list_after_arrival list at in_use x.packet x.t4;
  in_use = (arrived_for list at in_use x.packet x.t4).in_use;
  octets = x.packet;
}
does list at in_use (give_up x) = record {
  result = calls.said_call (gave_up_for list at in_use x.uptime).answer;
  list = list_after_give_up list at in_use x.uptime;
  in_use = (gave_up_for list at in_use x.uptime).in_use;
  octets = [];
}

abbrev pub ours : Implementation associations
ours i = does i.list i.at i.in_use i.call
