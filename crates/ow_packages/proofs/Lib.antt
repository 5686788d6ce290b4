pub mod ParamLaws
