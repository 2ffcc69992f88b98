pub mod EndpointStates
