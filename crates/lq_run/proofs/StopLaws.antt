-- What the machine answers where a statement stops.
use Rattle.std.proofs.Common.{◌≡◌, ◌∙◌, List, Option, Some, Err, ap, sym, subst}
use Rattle.serde_json.specs.Data.{Data}
use Rattle.lq_security.specs.Rights.{Denied, denial}
use Rattle.lq_machine.specs.Served.{denied_data, error_data, line_of}
use Rattle.lq_machine.specs.States.{State, host_names, schemas_of}
use Rattle.lq_machine.specs.Statements.{Outcome, allowed_by, if_allowed, refused}
use Rattle.lq_language.specs.declared.rights.Use.{Use}
use Rattle.lq_run.specs.Statements.{HasRights}
use Rattle.lq_run.specs.Stops.{Refuses, Stops, StopsWith}
use Rattle.lq_run.specs.declared.stop.Stop.{Stop}
use Rattle.lq_run.specs.declared.stop.Stop.TheVariants as stop

-- the line of a reply that the machine gives
pub stops_with : (s : State) (reply : Data) (answer : Outcome) (why : Stop) → answer ≡ (reply, s) → StopsWith reply why → Stops s answer why
stops_with s reply answer (stop.Answer line) is so = (so ∙ ap (λ (o : Outcome). line_of o.0) (sym is), ap (λ (o : Outcome). o.1) (sym is))
stops_with s reply answer stop.Memory is so = tt

-- the same reply in other words
pub stops_as : (x y : Data) (why : Stop) → x ≡ y → StopsWith x why → StopsWith y why
stops_as x y why same so = subst (λ (reply : Data). StopsWith reply why) same so

-- the same answer in other words
pub same_stop : (s : State) (x y : Outcome) (why : Stop) → x ≡ y → Stops s y why → Stops s x why
same_stop s x y why same stops = subst (λ (answer : Outcome). Stops s answer why) (sym same) stops

-- the refusal that the machine gives where this is so
pub stops_refused : (s : State) (word : List _) (is_so : Type 0) (answer : Outcome) (why : Stop) → (is_so → answer ≡ refused s word)
    → Refuses word is_so why → Stops s answer why
stops_refused s word is_so answer (stop.Answer line) is so = stops_with s (error_data word) answer (stop.Answer line) (is so.0) so.1
stops_refused s word is_so answer stop.Memory is so = tt

-- the denial of the first use to which there is no right
pub stops_denied : (s : State) (uses : List Use) (why : Stop) (next : Outcome) → HasRights s uses (Err why) → Stops s (if_allowed s uses next) why
stops_denied s uses (stop.Answer line) next told =
    (told.2 ∙ ap (λ (o : Option Denied). line_of (allowed_by s o next).0) (sym told.1), ap (λ (o : Option Denied). (allowed_by s o next).1) (sym told.1))
stops_denied s uses stop.Memory next told = tt

-- and the denial of this use
pub denies : (s : State) (uses : List Use) (d : Denied) (why : Stop) → denial s.policies s.role uses ≡ Some d
    → StopsWith (denied_data (schemas_of s.tables) (host_names s) d.rule d.used) why → HasRights s uses (Err why)
denies s uses d (stop.Answer line) is so = (d, is, so)
denies s uses d stop.Memory is so = tt
