-- Laws of the layout: what a slot tells of its delivery, and that laying and cutting a delivery are document 01's steps.
pub mod CutSlot
pub mod Cutting
pub mod Deliveries
pub mod Laying
pub mod Lookup
pub mod Picked
pub mod Remaining
pub mod Serving
pub mod Slots
